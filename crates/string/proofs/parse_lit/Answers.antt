-- `string::parse_lit` meets its contract.
-- Assumes nothing.
use native.Mathlib.Omega.{arith}
use Rattle.string.proofs.Starts.{known_quoted, known_raw, read_opened}
use Rattle.string.proofs.Literals.{opening_inside}
use Rattle.string.proofs.parse_lit.Goals as goal

pub unescape_string-requires : goal.unescape_string-requires
unescape_string-requires c =
    let a = c.args in (
      omega (arith, c.offset.ensures, opening_inside a.k a.text.now (known_quoted a.k a.text.now _ c.opening_of.ensures c.in-Quoted.is)),
      c.requires,
    )

pub scan_raw_string-requires : goal.scan_raw_string-requires
scan_raw_string-requires c =
    let a = c.args in
    omega (arith, c.offset-in-Raw.ensures, opening_inside a.k a.text.now (known_raw a.k a.text.now _ c.opening_of.ensures c.in-Raw.is))

pub returns-in-Quoted : goal.returns-in-Quoted
returns-in-Quoted c =
    let a = c.args in
    let opens = known_quoted a.k a.text.now _ c.opening_of.ensures c.in-Quoted.is in
    rw (read_opened a.k a.text.now _ c.opening_of.ensures opens, c.in-Quoted.is, c.unescape_string.ensures, c.offset.ensures)

pub returns-in-Raw : goal.returns-in-Raw
returns-in-Raw c =
    let a = c.args in
    let opens = known_raw a.k a.text.now _ c.opening_of.ensures c.in-Raw.is in
    rw (read_opened a.k a.text.now _ c.opening_of.ensures opens, c.in-Raw.is, c.scan_raw_string.ensures, c.offset-in-Raw.ensures)
