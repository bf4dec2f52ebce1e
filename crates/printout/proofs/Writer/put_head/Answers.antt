use Rattle.printout.proofs.Putting.{adds_then}
use Rattle.printout.specs.Text.{head, field, slots_word, schools_word, packages_word, nodes_word, steps_word, timetables_word}
use Rattle.printout.proofs.Writer.put_head.Goals as goal

pub returns : goal.returns
unfolding head
returns c = adds_then (field slots_word c.args.c.t) c.put_field.ensures
    (adds_then (field schools_word c.args.c.s) c.put_field-2.ensures
    (adds_then (field packages_word c.args.n) c.put_field-3.ensures
    (adds_then (field nodes_word c.args.c.made) c.put_field-4.ensures
    (adds_then (field steps_word c.args.c.steps) c.put_field-5.ensures
    (adds_then (field timetables_word c.args.count) c.put_field-6.ensures c.put.ensures)))))
