-- `ortext_write::write::is_short_kind` meets its contract: the short key spells the type.
-- Assumes nothing.
use mathlib.Core.Path.{sym, ap, ◌∙◌}
use Prim.Native.Nat.{ℕ}
use mathlib.Core.List.{List}
use Rattle.chars.specs.Case.{same_text}
use Rattle.ortext_write.proofs.Laws.Write.{short_test}
use Rattle.ortext_write.proofs.write.is_short_kind.Goals as goal

pub returns : goal.returns
returns c =
    let kind = c.args.kind.now in
    c.same_text.ensures ∙ ap (λ (t : List ℕ). same_text t kind) c.key_name.ensures ∙ sym (short_test kind)
