-- Laws of mailboxes for the entry points: the phrase stands in the line, and what is shown of it.
-- Assumes nothing.
use mathlib.Core.Path.{◌≡◌, refl, ap, ◌∙◌}
use mathlib.Core.List.{List, []}
use mathlib.Core.Option.{Option, none, some}
use Rattle.std.proofs.Common.{Result, Ok, Err}
use Prim.Native.Nat.{ℕ, ◌+◌, ◌≤◌, ◌<◌}
use native.Mathlib.Omega.{arith}
use borrow.Author.Tests.{ltb-false}
use denote.Ref.{Bor}
use lib.Dec.{ltb}
use lib.ListN.{length, take, drop}
use Rattle.chars.specs.Parts.{Place, at}
use Rattle.chars.proofs.Laws.Lists.{by_test}
use Rattle.lexical.specs.Nesting.{nests_too_deep}
use Rattle.lexical.specs.Tokens.{longest_line}
use Rattle.mailbox.specs.Answers.{mailbox_number, told_place, told_written}
use Rattle.mailbox.specs.Mailbox.{Bare, MailboxResult, bare_in, mailbox_by, phrase_place, place_by, place_in, read_mailbox, reading, reading_of, text_by}
use Rattle.mailbox.specs.declared.entry.MailboxFault.{MailboxFault}
use Rattle.mailbox.specs.declared.entry.MailboxFault.TheVariants as mailbox-fault
use Rattle.mailbox.specs.declared.entry.MailboxWritten.{MailboxWritten}
use Rattle.mailbox.specs.declared.phrase.PhrasePlace.{PhrasePlace}
use Rattle.mailbox.proofs.Laws.Bare.{phrase-inside}
use Rattle.gateway_pack.specs.Packed.{number_limit, packed_text}
use Rattle.gateway_mailbox.specs.Shows.{Shows}

pub mailbox-small : (f : MailboxFault) → mailbox_number f < number_limit
mailbox-small mailbox-fault.TooLong = omega arith
mailbox-small mailbox-fault.TooDeep = omega arith
mailbox-small mailbox-fault.NoMailbox = omega arith
mailbox-small mailbox-fault.ShortBuffer = omega arith

-- what is packed has no buffer
pub packed-any : (r : Result MailboxWritten MailboxFault) (new : List ℕ) → packed_text (told_written r []).text ≡ packed_text (told_written r new).text
packed-any (Ok w) new = refl
packed-any (Err f) new = refl

pub told-buffer : (r : Result MailboxWritten MailboxFault) (new : List ℕ) → (told_written r new).text.buffer ≡ new
told-buffer (Ok w) new = refl
told-buffer (Err f) new = refl

-- ---- the phrase stands in the line

read-inside : (s : List ℕ) (o : Option Bare) → bare_in s ≡ o → (place_by (reading_of o)).start + (place_by (reading_of o)).size ≤ length s
unfolding place_by reading_of
read-inside s none h = omega arith
read-inside s (some b) h = phrase-inside s b h

-- and in a line that is not too long
pub place_inside : (s : List ℕ) → ((phrase_place s).start + (phrase_place s).size ≤ length s) × ((phrase_place s).start + (phrase_place s).size ≤ longest_line)
unfolding phrase_place reading place_by
place_inside s =
    by_test (ltb longest_line (length s))
    (λ e. rw e (omega arith, omega arith))
    (λ e. by_test (nests_too_deep s)
    (λ f. rw (e, f) (omega arith, omega arith))
    (λ f. let k : length s ≤ longest_line = ltb-false longest_line (length s) e in
    rw (e, f) (read-inside s (bare_in s) refl, omega (arith, read-inside s (bare_in s) refl))))

pub place-small : (s : List ℕ) (p : PhrasePlace) → told_place p ≡ phrase_place s → p.start + p.size ≤ longest_line
place-small s p e =
    let a : p.start ≡ (phrase_place s).start = ap (λ (q : Place). q.start) e in
    let b : p.size ≡ (phrase_place s).size = ap (λ (q : Place). q.size) e in
    omega (arith, (place_inside s).1)

pub result_inside : (s old : List ℕ) → (read_mailbox s old).phrase.start + (read_mailbox s old).phrase.size ≤ length s
unfolding read_mailbox mailbox_by place_in phrase_place
result_inside s old =
    by_test (ltb 0 (text_by (reading s) old).number)
    (λ e. rw e (omega arith))
    (λ e. rw e (place_inside s).0)

pub place-fits : (s old new : List ℕ) (w : MailboxWritten) → told_written (Ok w) new ≡ read_mailbox s old → w.phrase.start + w.phrase.size ≤ length s
place-fits s old new w e =
    let a : w.phrase.start ≡ (read_mailbox s old).phrase.start = ap (λ (o : MailboxResult). o.phrase.start) e in
    let b : w.phrase.size ≡ (read_mailbox s old).phrase.size = ap (λ (o : MailboxResult). o.phrase.size) e in
    omega (arith, result_inside s old)

-- ---- what is shown

pub shows : (line part : Bor (List ℕ)) (old new : List ℕ) (n k : ℕ) (p : Place)
    → record { text = record { number = n; size = k; buffer = new }; phrase = p } ≡ read_mailbox line.now old
    → part.now ≡ take p.size (drop p.start line.now) → part.ref_ptr.0 ≡ line.ref_ptr.0 → part.ref_ptr.1 ≡ p.start + line.ref_ptr.1
    → Shows (read_mailbox line.now old) line n k new part
unfolding at
shows line part old new n k p e q b f = record {
  text = ap (λ (o : MailboxResult). o.text) e;
  phrase = record {
    holds = q ∙ ap (λ (o : MailboxResult). take o.phrase.size (drop o.phrase.start line.now)) e;
    within = b;
    stands = f ∙ ap (λ (o : MailboxResult). o.phrase.start + line.ref_ptr.1) e;
  };
}
