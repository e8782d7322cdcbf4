-- Laws of record text by itself.
-- Assumes nothing.
use mathlib.Core.Path.{◌≡◌, refl, sym, ap, ◌∙◌}
use mathlib.Core.Bool.{true, false}
use mathlib.Core.List.{List}
use Prim.Native.Nat.{ℕ}
use Rattle.oraddr.specs.Canonical.{canonical_record}
use Rattle.oraddr.specs.View.{empty_record}
use Rattle.oraddr.specs.declared.record.Record.{Record}
use Rattle.std.specs.Prelude.{Result}
use Rattle.ortext_read.specs.Answers.{fault_reading, reading, reading_result, told_reading}
use Rattle.ortext_read.proofs.Laws.Answers.{reads_as}
use Rattle.ortext_read.specs.Apply as apply
use Rattle.ortext_read.specs.Apply.{read, read_text}
use Rattle.ortext_segments.specs.Keys.{keys}
use Rattle.ortext_read.specs.declared.read.TextFault.{TextFault}
use Rattle.ortext_read.specs.declared.read.TextFault.TheVariants.{Again, Refused, Unread}
use Rattle.gateway_text.specs.Texts.{no_record, read_outcome, record_of_text}

pub outcome-not : (r : Record) → canonical_record r ≡ false → no_record ≡ read_outcome (read r)
unfolding read_outcome
outcome-not r h = rw h

pub outcome-done : (r : Record) → canonical_record r ≡ true → record { number = 0; record' = r } ≡ read_outcome (read r)
unfolding read_outcome
outcome-done r h = rw h

pub outcome-fault : (f : TextFault) → no_record ≡ read_outcome (fault_reading f)
unfolding read_outcome fault_reading
outcome-fault Unread = refl
outcome-fault Refused = refl
outcome-fault Again = refl

-- what reading a text came to
pub read-outcome : (e : Record) (s : List ℕ) (x : Result Record TextFault) (y : apply.Reading) → e ≡ empty_record
    → told_reading x ≡ reading_result (read_text keys 0 e s) → reading x ≡ y → read_outcome y ≡ record_of_text s
unfolding record_of_text
read-outcome e s x y z k h = ap read_outcome (sym h ∙ reads_as x (read_text keys 0 e s) k ∙ ap (λ (r : Record). read_text keys 0 r s) z)
