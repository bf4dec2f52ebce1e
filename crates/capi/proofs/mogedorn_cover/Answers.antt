use Rattle.capi.proofs.mogedorn_cover.Goals as goal

pub returns-clause-cover_post : goal.returns-clause-cover_post
returns-clause-cover_post c = rw c.reported.ensures.says (rw (c.of_words-items.ensures, c.of_words-o.ensures) at c.cover.ensures)
