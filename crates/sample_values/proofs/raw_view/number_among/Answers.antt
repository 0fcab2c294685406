use Rattle.std.proofs.Common.{◌+◌, ◌*◌, ◌≤◌, length, Some, ℕ, sym, ap, ◌∙◌, arith}
use Rattle.std.proofs.lemmas.List.{take_rest, length-drop}
use Rattle.byteorder.specs.Endian.{little_number}
use Rattle.xdf_model.specs.Sample.{number}
use Rattle.sample_values.proofs.Cuts.{room_of, number_of_place}
use Rattle.sample_values.proofs.raw_view.number_among.Goals as goal

pub slice_bounds-number_of-count : goal.slice_bounds-number_of-count
slice_bounds-number_of-count c =
    let room : c.args.i * c.args.size + c.args.size ≤ length c.args.values.now = room_of c.args.size c.args.count c.args.i c.args.values.now c.requires.some c.requires.all c.requires.within in
    omega arith

pub slice_bounds-number_of-start : goal.slice_bounds-number_of-start
slice_bounds-number_of-start c =
    let room : c.args.i * c.args.size + c.args.size ≤ length c.args.values.now = room_of c.args.size c.args.count c.args.i c.args.values.now c.requires.some c.requires.all c.requires.within in
    omega arith

pub number_of-requires-clause-room : goal.number_of-requires-clause-room
number_of-requires-clause-room c =
    let room : c.args.i * c.args.size + c.args.size ≤ length c.args.values.now = room_of c.args.size c.args.count c.args.i c.args.values.now c.requires.some c.requires.all c.requires.within in
    rw (take_rest c.args.values.now (c.args.i * c.args.size)) (omega (arith, length-drop (c.args.i * c.args.size) c.args.values.now))

pub returns : goal.returns
returns c =
    number_of_place c.args.size c.args.count c.args.i c.args.values.now c.requires.some c.requires.all c.requires.within
    ∙ ap (λ (n : ℕ). Some (number n)) (sym (c.number_of.ensures ∙ ap (little_number c.args.size) (take_rest c.args.values.now (c.args.i * c.args.size))))
