use Rattle.history.proofs.Requests.{fitting, step_request}
use lib.Seq.{length-take-le}
use mathlib.Core.Path.{sym}
use Rattle.history.proofs.call.Goals as goal

pub overflow_cast-q : goal.overflow_cast-q
overflow_cast-q c = record { fits = rw c.asked-q.ensures (fitting _ _ c.requires.i_value).second }

pub call_of-c-requires : goal.call_of-c-requires
call_of-c-requires c = rw c.asked-q.ensures (fitting _ _ c.requires.i_value).first

pub overflow_cast-q-2 : goal.overflow_cast-q-2
overflow_cast-q-2 c = record { fits = rw c.asked-q.ensures (fitting _ _ c.requires.i_value).items }

pub slice_bounds-answer-end : goal.slice_bounds-answer-end
slice_bounds-answer-end c = rw c.asked-q.ensures (fitting _ _ c.requires.i_value).room_for

pub slice_bounds-answer-end-2 : goal.slice_bounds-answer-end-2
slice_bounds-answer-end-2 c = sym (length-take-le _ _ (rw c.asked-q.ensures
    (fitting _ _ c.requires.i_value).room_for))

pub returns : goal.returns
returns c = step_request _ _ _ _ _ _ _ _ c.asked-q.ensures (length-take-le _ _ (rw c.asked-q.ensures (fitting _ _ c.requires.i_value).room_for))
    c.call_of-c.ensures c.answer.ensures
