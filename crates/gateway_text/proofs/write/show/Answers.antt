-- `gateway_text::write::show` meets its contract.
-- Assumes nothing.
use mathlib.Core.Path.{sym, ap, ◌∙◌}
use mathlib.Core.List.{List}
use mathlib.Core.Option.{some-injective}
use Prim.Native.Nat.{ℕ}
use lib.ListN.{length}
use lib.Seq.{length-take-le}
use Rattle.gateway_pack.specs.Filled.{filled}
use Rattle.gateway_text.proofs.write.show.Goals as goal

pub slice_bounds-fill-end : goal.slice_bounds-fill-end
slice_bounds-fill-end c =
    let t = c.put_text-n in
    sym (length-take-le t.result t.new.dst t.ensures.fits)

pub returns : goal.returns
returns c =
    let t = c.put_text-n in
    let a = c.args in
    let e = sym (some-injective _ _ t.ensures.told) in
    record {
      size = sym (length-take-le t.result t.new.dst t.ensures.fits) ∙ ap length e;
      buffer = c.fill.ensures ∙ ap (λ (s : List ℕ). filled s a.out.now) e;
    }
