-- What a kind of literal allows: the arguments that litrs gives `unescape`, `unescape_string` and `scan_raw_string` (escape.rs), under their
-- names there, for chars and strings, for bytes and byte strings, and for C strings.
-- Assumes nothing.
use Rattle.std.specs.Prelude.{Bool, true, false}
use Rattle.escape.specs.declared.Allowed.{Allowed}
use Rattle.escape.specs.declared.Allowed.TheVariants.{Text, Bytes, C}

-- `unicode`: Unicode escapes and non-ASCII characters
abbrev pub unicode : Allowed → Bool
unicode Text = true
unicode Bytes = false
unicode C = true

-- `byte_escapes`: `\x80` to `\xff`
abbrev pub byte_escapes : Allowed → Bool
byte_escapes Text = false
byte_escapes Bytes = true
byte_escapes C = true

-- `allow_nul`: NUL
abbrev pub allow_nul : Allowed → Bool
allow_nul Text = true
allow_nul Bytes = true
allow_nul C = false
