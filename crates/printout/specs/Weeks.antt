-- The week that the engine is asked about, as a problem. Assumes nothing.
use Rattle.itemset.specs.Words.{value}
use Rattle.exact_cover.specs.Problem.{Problem, problem_of}
use Rattle.printout.specs.declared.Week.{Week}

abbrev pub problem : Week → Problem
problem w = problem_of w.packages.now (value w.optional) w.order.now
