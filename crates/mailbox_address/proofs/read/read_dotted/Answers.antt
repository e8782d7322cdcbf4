-- `mailbox_address::read::read_dotted` meets its contract. The loop's invariant: what was read so far, with what words from the present token on give,
-- is what all of them give; and the text is no longer than what it was read from.
-- Assumes nothing.
use mathlib.Core.Path.{◌≡◌, refl, sym, ap, ◌∙◌}
use mathlib.Core.Bool.{Bool, ◌||◌}
use mathlib.Core.List.{◌++◌}
use Prim.Native.Nat.{◌+◌, ◌≤◌, ◌<◌}
use native.Mathlib.Omega.{arith}
use lib.ListN.{length, take, length-set}
use Rattle.chars.proofs.Laws.Write.{wrote-length, wrote-take}
use Rattle.mailbox_address.specs.Answers.{after, is_quoted_kind, meaning_at, told_dotted}
use Rattle.mailbox_address.proofs.Laws.Dotted.{after_dot, after_last, dotted-none, text_grown}
use Rattle.mailbox_address.proofs.Laws.Lexeme.{allowed-word, meaning-length, special-ahead, word-ahead}
use Rattle.mailbox_address.proofs.read.read_dotted.Goals as goal

pub loop-kind-init : goal.loop-kind-init
loop-kind-init c = (refl, c.requires.stands, c.requires.at_le_start.0, refl)

pub returns-then-not-is_allowed : goal.returns-then-not-is_allowed
unfolding after told_dotted
returns-then-not-is_allowed c =
    let l = c.loop-kind in
    let a = c.args in
    record {
      told = sym
          (l.invariant.0
          ∙ ap (after (take l.size l.dst) l.quoted) (dotted-none a.s.now l.t a.quotable (sym c.is_allowed.ensures ∙ c.if-not-is_allowed.true)));
      stands = l.invariant.1;
      low = tt;
    }

pub returns-then-not-is_special : goal.returns-then-not-is_special
unfolding told_dotted
returns-then-not-is_special c =
    let l = c.loop-kind in
    let a = c.args in
    let w = c.put_word-end in
    let n = c.next_token-next in
    let fits : l.size + length (meaning_at a.s.now l.t) ≤ l.t.end =
    omega (arith, l.invariant.2, l.invariant.1.ordered, meaning-length a.s.now l.t l.invariant.1) in
    let quoted : (l.quoted || c.is_quoted-quoted.result) ≡ (l.quoted || is_quoted_kind l.t.kind) =
    ap (λ (b : Bool). l.quoted || b) c.is_quoted-quoted.ensures in
    let e : take w.result w.new.dst ≡ take l.size l.dst ++ meaning_at a.s.now l.t =
    wrote-take w.ensures (omega (arith, fits, l.invariant.1.high, l.invariant.3, c.requires.at_le_start.1)) in
    record {
      told = rw (e, quoted)
          (sym
          (l.invariant.0
          ∙ after_last a.s.now l.t n.result a.quotable (sym c.is_allowed.ensures ∙ c.if-not-is_allowed.false) n.ensures.tokens
          (take l.size l.dst)
          l.quoted
          (sym c.is_special.ensures ∙ c.if-not-is_special.true)));
      stands = n.ensures.stands;
      low = omega (arith, fits, w.ensures.moved, n.ensures.low);
    }

pub bounds-dst-end : goal.bounds-dst-end
bounds-dst-end c =
    let l = c.loop-kind in
    let s = c.args.s.now in
    let w = c.put_word-end in
    let n = c.next_token-next in
    omega (
      arith,
      l.invariant.2,
      l.invariant.1.ordered,
      meaning-length s l.t l.invariant.1,
      w.ensures.moved,
      n.ensures.low,
      special-ahead s n.result 46 (sym c.is_special.ensures ∙ c.if-not-is_special.false) n.ensures.stands,
      n.ensures.stands.high,
      wrote-length w.ensures,
      l.invariant.3,
      c.requires.at_le_start.1,
    )

pub overflow_add-size : goal.overflow_add-size
overflow_add-size c =
    let l = c.loop-kind in
    let s = c.args.s.now in
    let w = c.put_word-end in
    let n = c.next_token-next in
    omega (
      arith,
      l.invariant.2,
      l.invariant.1.ordered,
      meaning-length s l.t l.invariant.1,
      w.ensures.moved,
      n.ensures.low,
      special-ahead s n.result 46 (sym c.is_special.ensures ∙ c.if-not-is_special.false) n.ensures.stands,
      n.ensures.stands.high,
    )

pub loop-kind-smaller : goal.loop-kind-smaller
loop-kind-smaller c =
    let l = c.loop-kind in
    let w = c.put_word-end in
    let n = c.next_token-next in
    let a = c.args in
    omega (
      arith,
      c.next_token-t.ensures.low,
      n.ensures.low,
      n.ensures.stands.ordered,
      n.ensures.stands.high,
      word-ahead a.s.now l.t (allowed-word l.t.kind a.quotable (sym c.is_allowed.ensures ∙ c.if-not-is_allowed.false)) l.invariant.1,
    )

pub loop-kind-preserved : goal.loop-kind-preserved
loop-kind-preserved c =
    let l = c.loop-kind in
    let a = c.args in
    let w = c.put_word-end in
    let n = c.next_token-next in
    let fits : l.size + length (meaning_at a.s.now l.t) ≤ l.t.end =
    omega (arith, l.invariant.2, l.invariant.1.ordered, meaning-length a.s.now l.t l.invariant.1) in
    let dot = special-ahead a.s.now n.result 46 (sym c.is_special.ensures ∙ c.if-not-is_special.false) n.ensures.stands in
    let before : w.result < n.result.end = omega (arith, fits, w.ensures.moved, n.ensures.low, dot) in
    let inside : w.result < length w.new.dst =
    omega (arith, before, n.ensures.stands.high, wrote-length w.ensures, l.invariant.3, c.requires.at_le_start.1) in
    let quoted : (l.quoted || c.is_quoted-quoted.result) ≡ (l.quoted || is_quoted_kind l.t.kind) =
    ap (λ (b : Bool). l.quoted || b) c.is_quoted-quoted.ensures in
    let e = text_grown w.ensures (omega (arith, fits, l.invariant.1.high, l.invariant.3, c.requires.at_le_start.1)) inside in (
      l.invariant.0
          ∙ after_dot a.s.now l.t n.result a.quotable (sym c.is_allowed.ensures ∙ c.if-not-is_allowed.false) n.ensures.tokens
          (take l.size l.dst)
          l.quoted
          (sym c.is_special.ensures ∙ c.if-not-is_special.false)
          ∙ rw (e, quoted, c.next_token-t.ensures.tokens),
      c.next_token-t.ensures.stands,
      omega (arith, before, c.next_token-t.ensures.low),
      simp length-set (wrote-length w.ensures ∙ l.invariant.3),
    )
