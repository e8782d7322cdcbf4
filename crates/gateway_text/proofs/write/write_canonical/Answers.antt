-- `gateway_text::write::write_canonical` meets its contract.
-- Assumes nothing.
use mathlib.Core.Path.{sym, ap, ◌∙◌}
use mathlib.Core.List.{List}
use mathlib.Core.Option.{some-injective}
use Prim.Native.Nat.{ℕ}
use lib.Seq.{length-take-le}
use Rattle.mapping.specs.Results.{placed}
use Rattle.gateway_text.proofs.write.write_canonical.Goals as goal

pub slice_bounds-place-end : goal.slice_bounds-place-end
slice_bounds-place-end c =
    let t = c.put_text-n in
    sym (length-take-le t.result t.new.dst t.ensures.fits)

pub returns : goal.returns
returns c =
    let t = c.put_text-n in
    let a = c.args in
    c.place.ensures ∙ ap (λ (s : List ℕ). placed s a.out.now) (sym (some-injective _ _ t.ensures.told))
