-- Document 01's number of each refusal: "Refusal numbers by example", the column no.
-- Assumes nothing.
use Rattle.std.specs.Prelude.{ℕ}
use Rattle.err.specs.declared.ParseErrorKind.{ParseErrorKind}
use Rattle.err.specs.declared.ParseErrorKind.TheVariants.{Empty, UnexpectedChar, InvalidLiteral, DoesNotStartWithDigit, InvalidDigit, NoDigits, NoExponentDigits, UnknownEscape, UnterminatedEscape, InvalidXEscape, NonAsciiXEscape, UnicodeEscapeInByteLiteral, InvalidStartOfUnicodeEscape, UnicodeEscapeWithoutBrace, NonHexDigitInUnicodeEscape, TooManyDigitInUnicodeEscape, InvalidUnicodeEscapeChar, UnterminatedUnicodeEscape, UnterminatedCharLiteral, OverlongCharLiteral, EmptyCharLiteral, UnterminatedByteLiteral, OverlongByteLiteral, EmptyByteLiteral, NonAsciiInByteLiteral, UnescapedSingleQuote, UnescapedSpecialWhitespace, DoesNotStartWithQuote, UnterminatedRawString, UnterminatedString, InvalidStringLiteralStart, InvalidByteLiteralStart, InvalidByteStringLiteralStart, InvalidCStringLiteralStart, DisallowedNulEscape, NulByte, CarriageReturn, TooManyHashes, InvalidSuffix, UnexpectedIntegerLit, IntegerSuffixStartingWithE, BadCode, TextTooLong, NotUtf8, NoValue, PowerTooFar, FormTooLong, OutTooSmall}

abbrev pub number_of : ParseErrorKind → ℕ
number_of Empty = 1
number_of UnexpectedChar = 2
number_of InvalidLiteral = 3
number_of DoesNotStartWithDigit = 4
number_of InvalidDigit = 5
number_of NoDigits = 6
number_of NoExponentDigits = 7
number_of UnknownEscape = 8
number_of UnterminatedEscape = 9
number_of InvalidXEscape = 10
number_of NonAsciiXEscape = 11
number_of UnicodeEscapeInByteLiteral = 12
number_of InvalidStartOfUnicodeEscape = 13
number_of UnicodeEscapeWithoutBrace = 14
number_of NonHexDigitInUnicodeEscape = 15
number_of TooManyDigitInUnicodeEscape = 16
number_of InvalidUnicodeEscapeChar = 17
number_of UnterminatedUnicodeEscape = 18
number_of UnterminatedCharLiteral = 19
number_of OverlongCharLiteral = 20
number_of EmptyCharLiteral = 21
number_of UnterminatedByteLiteral = 22
number_of OverlongByteLiteral = 23
number_of EmptyByteLiteral = 24
number_of NonAsciiInByteLiteral = 25
number_of UnescapedSingleQuote = 26
number_of UnescapedSpecialWhitespace = 27
number_of DoesNotStartWithQuote = 28
number_of UnterminatedRawString = 29
number_of UnterminatedString = 30
number_of InvalidStringLiteralStart = 31
number_of InvalidByteLiteralStart = 32
number_of InvalidByteStringLiteralStart = 33
number_of InvalidCStringLiteralStart = 34
number_of DisallowedNulEscape = 35
number_of NulByte = 36
number_of CarriageReturn = 37
number_of TooManyHashes = 38
number_of InvalidSuffix = 39
number_of UnexpectedIntegerLit = 40
number_of IntegerSuffixStartingWithE = 41
number_of BadCode = 42
number_of TextTooLong = 43
number_of NotUtf8 = 44
number_of NoValue = 45
number_of PowerTooFar = 46
number_of FormTooLong = 47
number_of OutTooSmall = 48
