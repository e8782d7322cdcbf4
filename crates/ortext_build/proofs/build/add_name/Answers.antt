-- `ortext_build::build::add_name` meets its contract.
-- Assumes nothing.
use mathlib.Core.Path.{◌≡◌, sym, ap, ◌∙◌}
use mathlib.Core.List.{List, [], ◌∷◌}
use mathlib.Core.Option.{some}
use Prim.Native.Nat.{ℕ, ◌-◌}
use native.Mathlib.Omega.{arith}
use lib.ListN.{length, take, drop, length-drop}
use lib.Seq.{length-take-le, take_all}
use Rattle.chars.specs.Lists.{non_empty}
use Rattle.oraddr.specs.Add.{Outcome, told}
use Rattle.oraddr.specs.Bounds.{G, I, S}
use Rattle.oraddr.specs.declared.add.Addition.{Addition}
use Rattle.oraddr.specs.declared.add.Added.TheVariants.{Done}
use Rattle.oraddr.specs.declared.record.Record.{Record}
use Rattle.ortext_build.specs.Adding.{add_name, add_singles, start}
use Rattle.ortext_name.specs.Places.{letters_at, name_at}
use Rattle.ortext_name.specs.declared.name.NamePlaces.{NamePlaces}
use Rattle.ortext_build.proofs.Laws.Adding.{name_last, name_next, singles_stop, told-done, told-refused}
use Rattle.ortext_build.proofs.build.add_name.Goals as goal

-- the surname is all that is left of the text
surname : (r : Record) (text : List ℕ) (at : ℕ) (o : Outcome) → o ≡ add_singles S (take (length text - at) (drop at text) ∷ []) (start r) → o ≡ add_singles S (drop at text ∷ []) (start r)
surname r text at o e = e ∙ ap (λ t. add_singles S (t ∷ []) (start r)) (take_all (length text - at) (drop at text) (rw length-drop (omega arith)))

pub returns-in_default : goal.returns-in_default
unfolding name_at
returns-in_default c =
    let a = c.args in
    let r = c.add_value-a.result in
    sym (name_next a.rec (name_at a.text.now a.places) (told r) (surname a.rec a.text.now a.places.surname _ c.add_value-a.ensures) ∙ singles_stop G _ (told r) (told-refused r c.in_default.is))

pub slice_bounds-add_value-end-2 : goal.slice_bounds-add_value-end-2
slice_bounds-add_value-end-2 c = sym (length-take-le _ _ c.requires.given)

-- the surname and the given name are added
named : (r : Record) (text : List ℕ) (places : NamePlaces) (a b : Addition) → a.answer ≡ Done
    → told a ≡ add_singles S (take (length text - places.surname) (drop places.surname text) ∷ []) (start r)
    → told b ≡ add_singles G (take places.given text ∷ []) (start a.«record»)
    → add_name r (some (name_at text places)) ≡ add_singles I (letters_at places.initials (drop places.from text) ∷ []) (told b)
unfolding name_at
named r text places a b done e f =
    name_last r (name_at text places) (told a) (told b) (surname r text places.surname _ e) (f ∙ ap (add_singles G _) (sym (told-done a done)))

pub returns-in_default-answer : goal.returns-in_default-answer
returns-in_default-answer c =
    let a = c.args in
    let r = c.add_value-b.result in
    sym (named a.rec a.text.now a.places c.add_value-a.result r c.in-Done.is c.add_value-a.ensures c.add_value-b.ensures ∙ singles_stop I _ (told r) (told-refused r c.in_default-answer.is))

-- there are no initials
pub returns-then-places-eq0 : goal.returns-then-places-eq0
unfolding letters_at add_singles non_empty
returns-then-places-eq0 c =
    let a = c.args in
    let r = c.add_value-b.result in
    sym
    (named a.rec a.text.now a.places c.add_value-a.result r c.in-Done.is c.add_value-a.ensures c.add_value-b.ensures
    ∙ ap (λ n. add_singles I (letters_at n (drop a.places.from a.text.now) ∷ []) (told r)) c.if-places-eq0.true)

pub returns : goal.returns
returns c =
    let a = c.args in
    let r = c.add_value-b.result in
    c.add_initials.ensures
    ∙ ap (add_singles I _) (sym (told-done r c.in-Done-answer.is))
    ∙ sym (named a.rec a.text.now a.places c.add_value-a.result r c.in-Done.is c.add_value-a.ensures c.add_value-b.ensures)
