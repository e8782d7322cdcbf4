-- Document 01, "The program `orroute`": what one line is answered with.
-- Assumes nothing.
use Rattle.std.specs.Prelude.{ℕ, ◌+◌, cond, List, [], ◌∷◌, ◌++◌, eqb, ltb, length, get_or, drop}
use Rattle.std.proofs.Math.Option.{Option, none, some}
use Rattle.oraddr.specs.Canonical.{canonical_record}
use Rattle.oraddr.specs.View.{empty_record, view}
use Rattle.ortext_read.specs.Apply.{Reading, again, read, read_text, refused, unread}
use Rattle.ortext_segments.specs.Keys.{keys}
use Rattle.ortext_write.specs.Write.{record_text}
use Rattle.table.specs.Lines.{TableOutcome, malformed, well_formed}
use Rattle.table.specs.Table.{Table}
use Rattle.mapping.specs.Answers.{address_room}
use Rattle.mapping.specs.Results.{RecordResult}
use Rattle.mapping.specs.ToAddress.{address_of}
use Rattle.mapping.specs.ToRecord.{to_record_by}

-- "or one over 4,096 bytes without its LF"
abbrev pub longest_line : ℕ
longest_line = 4096

-- where the other form stands in an answer: behind the number and a tab
abbrev pub text_at : ℕ
text_at = 2

-- Room for any line of output: a number, a tab, a text and an LF.
abbrev pub answer_room : ℕ
answer_room = text_at + address_room + 1

-- "It prints the number, and on 0 a tab and the other form."
unfoldable pub done_line : List ℕ → List ℕ
done_line s = 48 ∷ 9 ∷ s ++ (10 ∷ [])

unfoldable pub refused_line : ℕ → List ℕ
refused_line n = (48 + n) ∷ 10 ∷ []

-- an address: the record's text
unfoldable pub record_line : RecordResult → List ℕ
unfolding done_line refused_line record_text keys view
record_line o = cond (eqb o.number 0) (done_line (record_text keys (view o.record'))) (refused_line o.number)

-- a record that was read: "Record to address: 7, 4, 5, 6"; a line is printed whole, so there is no 6
unfoldable pub sent_line : Option (List ℕ) → List ℕ
unfolding done_line refused_line
sent_line none = refused_line 5
sent_line (some s) = done_line s

-- "record text (read by steps 2 and 4; 4 if that fails, or a key is unknown, repeated or meets PN as in the list above)"
unfoldable pub read_line : Table → Reading → List ℕ
unfolding sent_line refused_line canonical_record address_of view
read_line t unread = refused_line 4
read_line t refused = refused_line 4
read_line t again = refused_line 4
read_line t (read r) = cond (canonical_record r) (sent_line (address_of t (view r))) (refused_line 4)

-- a record text: the record's address
unfoldable pub text_line : TableOutcome → List ℕ → List ℕ
unfolding refused_line read_line read_text keys
text_line (malformed n) s = refused_line 7
text_line (well_formed t) s = read_line t (read_text keys 0 empty_record s)

-- "Lines are a capital `A` or `O`, tab, address or record text"
unfoldable pub tagged_line : TableOutcome → ℕ → List ℕ → List ℕ
unfolding record_line to_record_by text_line refused_line
tagged_line l tag s = cond (eqb tag 65) (record_line (to_record_by l s)) (cond (eqb tag 79) (text_line l s) (refused_line 1))

-- "Any other line, or one over 4,096 bytes without its LF, prints 1."
unfoldable pub line_answer : TableOutcome → List ℕ → List ℕ
unfolding refused_line tagged_line
line_answer l s =
    cond (ltb longest_line (length s)) (refused_line 1)
    (cond (eqb (get_or s 1 0) 9) (tagged_line l (get_or s 0 0) (drop 2 s)) (refused_line 1))
