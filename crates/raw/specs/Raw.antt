-- A raw body step by step, and what litrs's `scan_raw_string` (escape.rs) returns for a whole text.
-- Assumes nothing.
use Rattle.std.specs.Prelude.{ℕ, ◌+◌, cond, List, [], ◌∷◌, eqb, ltb, leb, length, get_or, drop}
use Rattle.err.specs.Outcome.{none, between, raw}
use Rattle.scan.specs.Run.{run}
use Rattle.scan.specs.Sets.{only}
use Rattle.escape.specs.declared.Allowed.{Allowed}
use Rattle.escape.specs.declared.Unescaped.TheVariants.{Byte}
use Rattle.body.specs.Step.{close, refuse, Next, piece, stop, plain_of}
use Rattle.body.specs.Body.{Body, body_by}
use Rattle.body.specs.Quote.{Quote, refused, after_body}

-- ---- a body

-- 01, Quoted kinds: "A raw string closes at its first inner quote followed by its hashes", of which there are h; another quote stands for
-- itself, and then CR, NUL and non-ASCII are refused as in a quoted body
-- 34 is `"`, 35 is `#`
unfoldable pub raw_byte : Allowed → ℕ → ℕ → List ℕ → Next
raw_byte k h b s =
    cond (eqb b 34)
    (cond (leb h (run (only 35) s)) (stop close) (piece 1 (Byte 34)))
    (plain_of k b)

-- one turn of `scan_raw_string`'s loop, on what is left of the text; after the last byte 29
unfoldable pub raw_step_of : Allowed → ℕ → List ℕ → Next
raw_step_of k h [] = stop (refuse 29 none)
raw_step_of k h (b ∷ s) = raw_byte k h b s

-- the body of a raw string with h hashes: the loop of `scan_raw_string`
abbrev pub raw_body : Allowed → ℕ → List ℕ → Body
raw_body k h = body_by (raw_step_of k h)

-- ---- a text

-- of a text whose raw body starts at an offset, after h hashes and a quote
unfoldable pub raw_from : Allowed → ℕ → ℕ → List ℕ → Quote
raw_from k h offset text = after_body text (raw h) offset (raw_body k h (drop offset text))

-- 01, Quoted kinds: h hashes stand at an offset; "only hashes to the end, however many" are 3, then "255 at most, else 38", then hashes
-- "not followed by a quote are 3"
-- 34 is `"`
unfoldable pub raw_at : Allowed → ℕ → ℕ → List ℕ → Quote
raw_at k h offset text =
    cond (eqb (offset + h) (length text)) (refused 3 none)
    (cond (ltb 255 h) (refused 38 (between offset (offset + h)))
    (cond (eqb (get_or text (offset + h) 0) 34) (raw_from k h (offset + h + 1) text)
    (refused 3 none)))

-- litrs's `scan_raw_string`: of a text whose hashes start at an offset
-- 35 is `#`
unfoldable pub raw_of : Allowed → ℕ → List ℕ → Quote
raw_of k offset text = raw_at k (run (only 35) (drop offset text)) offset text
