use Rattle.statement.proofs.Results.{none_said, some_said, passed_up}
use Rattle.engine.proofs.Delivery.{list-refused, list-disordered, list_words, list-ready}
use Rattle.engine.proofs.open_list.Goals as goal

pub returns-in_err-open : goal.returns-in_err-open
returns-in_err-open c = let s = c.from_residual.result in let p = c.from_residual.ensures.1 in let w = c.in_err-open.was in
    rw (passed_up s p w) (list-refused c.open.ensures (some_said w))

pub returns-then-not-in_precedence : goal.returns-then-not-in_precedence
returns-then-not-in_precedence c = let z = none_said c.in_ok-open.was in
    list-disordered c.open.ensures z (rw (c.open.ensures.ready z).usable.keyed.are at (rw c.number-n.ensures at c.in_precedence.ensures)) c.if-not-in_precedence.true

pub returns-then-words-answer : goal.returns-then-words-answer
returns-then-words-answer c = let z = none_said c.in_ok-open.was in
    list_words c.open.ensures z (rw (c.open.ensures.ready z).usable.keyed.are at (rw c.number-n.ensures at c.in_precedence.ensures)) c.if-not-in_precedence.false c.if-words-answer.true

pub returns : goal.returns
returns c = let z = none_said c.in_ok-open.was in
    list-ready c.open.ensures z (rw (c.open.ensures.ready z).usable.keyed.are at (rw c.number-n.ensures at c.in_precedence.ensures)) c.if-not-in_precedence.false c.if-words-answer.false
