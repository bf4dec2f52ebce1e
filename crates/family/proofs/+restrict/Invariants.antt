use Rattle.family.proofs.+restrict.Given as goal

abbrev pub decreases-restrict : goal.decreases-restrict
decreases-restrict l = l.f
