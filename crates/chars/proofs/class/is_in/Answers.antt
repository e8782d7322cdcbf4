-- `chars::class::is_in` meets its contract: each arm asks the function of its class.
-- Assumes nothing.
use Rattle.chars.specs.Class.{is_in}
use Rattle.chars.proofs.class.is_in.Goals as goal

pub returns-in-Letter : goal.returns-in-Letter
unfolding is_in
returns-in-Letter c = rw c.in-Letter.is c.is_letter.ensures

pub returns-in-Digit : goal.returns-in-Digit
unfolding is_in
returns-in-Digit c = rw c.in-Digit.is c.is_digit.ensures

pub returns-in-Printable : goal.returns-in-Printable
unfolding is_in
returns-in-Printable c = rw c.in-Printable.is c.is_printable.ensures

pub returns-in-Quotable : goal.returns-in-Quotable
unfolding is_in
returns-in-Quotable c = rw c.in-Quotable.is c.is_quotable.ensures

pub returns-in-Atom : goal.returns-in-Atom
unfolding is_in
returns-in-Atom c = rw c.in-Atom.is c.is_atom_char.ensures

pub returns-in-Label : goal.returns-in-Label
unfolding is_in
returns-in-Label c = rw c.in-Label.is c.is_label_char.ensures

pub returns-in-Any : goal.returns-in-Any
unfolding is_in
returns-in-Any c = rw c.in-Any.is
