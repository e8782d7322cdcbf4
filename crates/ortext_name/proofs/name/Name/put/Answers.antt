-- `ortext_name::name::Name::put` meets its contract: three writes, one after the other.
-- Assumes nothing.
use Prim.Native.Nat.{◌+◌, ◌*◌, ◌≤◌}
use native.Mathlib.Omega.{arith}
use lib.ListN.{length}
use Rattle.chars.proofs.Laws.Write.{wrote-length, wrote_then}
use Rattle.ortext_name.specs.Name.{given_text, name_text}
use Rattle.ortext_name.proofs.Laws.Name.{length-dotted, length_pieces}
use Rattle.ortext_name.proofs.name.Name.put.Goals as goal

pub put_given-a-requires : goal.put_given-a-requires
put_given-a-requires c =
    let the_room : let a = c.args in a.at + (length (given_text a.self.now.given.now) + 2 * length a.self.now.initials.now + length a.self.now.surname.now) ≤ length a.dst.now = omega (arith, length_pieces (record { given = c.args.self.now.given.now; initials = c.args.self.now.initials.now; surname = c.args.self.now.surname.now })) in
    omega (arith, the_room)

pub put_dotted-b-requires : goal.put_dotted-b-requires
put_dotted-b-requires c =
    let the_room : let a = c.args in a.at + (length (given_text a.self.now.given.now) + 2 * length a.self.now.initials.now + length a.self.now.surname.now) ≤ length a.dst.now = omega (arith, length_pieces (record { given = c.args.self.now.given.now; initials = c.args.self.now.initials.now; surname = c.args.self.now.surname.now })) in
    let w = c.put_given-a.ensures in
    omega (arith, the_room, w.moved, wrote-length w)

pub put-requires : goal.put-requires
put-requires c =
    let the_room : let a = c.args in a.at + (length (given_text a.self.now.given.now) + 2 * length a.self.now.initials.now + length a.self.now.surname.now) ≤ length a.dst.now = omega (arith, length_pieces (record { given = c.args.self.now.given.now; initials = c.args.self.now.initials.now; surname = c.args.self.now.surname.now })) in
    let w = c.put_given-a.ensures in
    let v = c.put_dotted-b.ensures in
    omega (arith, the_room, w.moved, wrote-length w, v.moved, wrote-length v, length-dotted c.args.self.now.initials.now)

pub returns : goal.returns
unfolding name_text
returns c = wrote_then (wrote_then c.put_given-a.ensures c.put_dotted-b.ensures) c.put.ensures
