-- Each arm is given which constructor the kind is.
-- Assumes nothing.
use mathlib.Core.Path.{sym, ap}
use Rattle.err.specs.Numbers.{number_of}
use Rattle.err.proofs.number.Goals as goal

pub returns-in-Empty : goal.returns-in-Empty
returns-in-Empty c = sym (ap number_of c.in-Empty.is)

pub returns-in-UnexpectedChar : goal.returns-in-UnexpectedChar
returns-in-UnexpectedChar c = sym (ap number_of c.in-UnexpectedChar.is)

pub returns-in-InvalidLiteral : goal.returns-in-InvalidLiteral
returns-in-InvalidLiteral c = sym (ap number_of c.in-InvalidLiteral.is)

pub returns-in-DoesNotStartWithDigit : goal.returns-in-DoesNotStartWithDigit
returns-in-DoesNotStartWithDigit c = sym (ap number_of c.in-DoesNotStartWithDigit.is)

pub returns-in-InvalidDigit : goal.returns-in-InvalidDigit
returns-in-InvalidDigit c = sym (ap number_of c.in-InvalidDigit.is)

pub returns-in-NoDigits : goal.returns-in-NoDigits
returns-in-NoDigits c = sym (ap number_of c.in-NoDigits.is)

pub returns-in-NoExponentDigits : goal.returns-in-NoExponentDigits
returns-in-NoExponentDigits c = sym (ap number_of c.in-NoExponentDigits.is)

pub returns-in-UnknownEscape : goal.returns-in-UnknownEscape
returns-in-UnknownEscape c = sym (ap number_of c.in-UnknownEscape.is)

pub returns-in-UnterminatedEscape : goal.returns-in-UnterminatedEscape
returns-in-UnterminatedEscape c = sym (ap number_of c.in-UnterminatedEscape.is)

pub returns-in-InvalidXEscape : goal.returns-in-InvalidXEscape
returns-in-InvalidXEscape c = sym (ap number_of c.in-InvalidXEscape.is)

pub returns-in-NonAsciiXEscape : goal.returns-in-NonAsciiXEscape
returns-in-NonAsciiXEscape c = sym (ap number_of c.in-NonAsciiXEscape.is)

pub returns-in-UnicodeEscapeInByteLiteral : goal.returns-in-UnicodeEscapeInByteLiteral
returns-in-UnicodeEscapeInByteLiteral c = sym (ap number_of c.in-UnicodeEscapeInByteLiteral.is)

pub returns-in-InvalidStartOfUnicodeEscape : goal.returns-in-InvalidStartOfUnicodeEscape
returns-in-InvalidStartOfUnicodeEscape c = sym (ap number_of c.in-InvalidStartOfUnicodeEscape.is)

pub returns-in-UnicodeEscapeWithoutBrace : goal.returns-in-UnicodeEscapeWithoutBrace
returns-in-UnicodeEscapeWithoutBrace c = sym (ap number_of c.in-UnicodeEscapeWithoutBrace.is)

pub returns-in-NonHexDigitInUnicodeEscape : goal.returns-in-NonHexDigitInUnicodeEscape
returns-in-NonHexDigitInUnicodeEscape c = sym (ap number_of c.in-NonHexDigitInUnicodeEscape.is)

pub returns-in-TooManyDigitInUnicodeEscape : goal.returns-in-TooManyDigitInUnicodeEscape
returns-in-TooManyDigitInUnicodeEscape c = sym (ap number_of c.in-TooManyDigitInUnicodeEscape.is)

pub returns-in-InvalidUnicodeEscapeChar : goal.returns-in-InvalidUnicodeEscapeChar
returns-in-InvalidUnicodeEscapeChar c = sym (ap number_of c.in-InvalidUnicodeEscapeChar.is)

pub returns-in-UnterminatedUnicodeEscape : goal.returns-in-UnterminatedUnicodeEscape
returns-in-UnterminatedUnicodeEscape c = sym (ap number_of c.in-UnterminatedUnicodeEscape.is)

pub returns-in-UnterminatedCharLiteral : goal.returns-in-UnterminatedCharLiteral
returns-in-UnterminatedCharLiteral c = sym (ap number_of c.in-UnterminatedCharLiteral.is)

pub returns-in-OverlongCharLiteral : goal.returns-in-OverlongCharLiteral
returns-in-OverlongCharLiteral c = sym (ap number_of c.in-OverlongCharLiteral.is)

pub returns-in-EmptyCharLiteral : goal.returns-in-EmptyCharLiteral
returns-in-EmptyCharLiteral c = sym (ap number_of c.in-EmptyCharLiteral.is)

pub returns-in-UnterminatedByteLiteral : goal.returns-in-UnterminatedByteLiteral
returns-in-UnterminatedByteLiteral c = sym (ap number_of c.in-UnterminatedByteLiteral.is)

pub returns-in-OverlongByteLiteral : goal.returns-in-OverlongByteLiteral
returns-in-OverlongByteLiteral c = sym (ap number_of c.in-OverlongByteLiteral.is)

pub returns-in-EmptyByteLiteral : goal.returns-in-EmptyByteLiteral
returns-in-EmptyByteLiteral c = sym (ap number_of c.in-EmptyByteLiteral.is)

pub returns-in-NonAsciiInByteLiteral : goal.returns-in-NonAsciiInByteLiteral
returns-in-NonAsciiInByteLiteral c = sym (ap number_of c.in-NonAsciiInByteLiteral.is)

pub returns-in-UnescapedSingleQuote : goal.returns-in-UnescapedSingleQuote
returns-in-UnescapedSingleQuote c = sym (ap number_of c.in-UnescapedSingleQuote.is)

pub returns-in-UnescapedSpecialWhitespace : goal.returns-in-UnescapedSpecialWhitespace
returns-in-UnescapedSpecialWhitespace c = sym (ap number_of c.in-UnescapedSpecialWhitespace.is)

pub returns-in-DoesNotStartWithQuote : goal.returns-in-DoesNotStartWithQuote
returns-in-DoesNotStartWithQuote c = sym (ap number_of c.in-DoesNotStartWithQuote.is)

pub returns-in-UnterminatedRawString : goal.returns-in-UnterminatedRawString
returns-in-UnterminatedRawString c = sym (ap number_of c.in-UnterminatedRawString.is)

pub returns-in-UnterminatedString : goal.returns-in-UnterminatedString
returns-in-UnterminatedString c = sym (ap number_of c.in-UnterminatedString.is)

pub returns-in-InvalidStringLiteralStart : goal.returns-in-InvalidStringLiteralStart
returns-in-InvalidStringLiteralStart c = sym (ap number_of c.in-InvalidStringLiteralStart.is)

pub returns-in-InvalidByteLiteralStart : goal.returns-in-InvalidByteLiteralStart
returns-in-InvalidByteLiteralStart c = sym (ap number_of c.in-InvalidByteLiteralStart.is)

pub returns-in-InvalidByteStringLiteralStart : goal.returns-in-InvalidByteStringLiteralStart
returns-in-InvalidByteStringLiteralStart c = sym (ap number_of c.in-InvalidByteStringLiteralStart.is)

pub returns-in-InvalidCStringLiteralStart : goal.returns-in-InvalidCStringLiteralStart
returns-in-InvalidCStringLiteralStart c = sym (ap number_of c.in-InvalidCStringLiteralStart.is)

pub returns-in-DisallowedNulEscape : goal.returns-in-DisallowedNulEscape
returns-in-DisallowedNulEscape c = sym (ap number_of c.in-DisallowedNulEscape.is)

pub returns-in-NulByte : goal.returns-in-NulByte
returns-in-NulByte c = sym (ap number_of c.in-NulByte.is)

pub returns-in-CarriageReturn : goal.returns-in-CarriageReturn
returns-in-CarriageReturn c = sym (ap number_of c.in-CarriageReturn.is)

pub returns-in-TooManyHashes : goal.returns-in-TooManyHashes
returns-in-TooManyHashes c = sym (ap number_of c.in-TooManyHashes.is)

pub returns-in-InvalidSuffix : goal.returns-in-InvalidSuffix
returns-in-InvalidSuffix c = sym (ap number_of c.in-InvalidSuffix.is)

pub returns-in-UnexpectedIntegerLit : goal.returns-in-UnexpectedIntegerLit
returns-in-UnexpectedIntegerLit c = sym (ap number_of c.in-UnexpectedIntegerLit.is)

pub returns-in-IntegerSuffixStartingWithE : goal.returns-in-IntegerSuffixStartingWithE
returns-in-IntegerSuffixStartingWithE c = sym (ap number_of c.in-IntegerSuffixStartingWithE.is)

pub returns-in-BadCode : goal.returns-in-BadCode
returns-in-BadCode c = sym (ap number_of c.in-BadCode.is)

pub returns-in-TextTooLong : goal.returns-in-TextTooLong
returns-in-TextTooLong c = sym (ap number_of c.in-TextTooLong.is)

pub returns-in-NotUtf8 : goal.returns-in-NotUtf8
returns-in-NotUtf8 c = sym (ap number_of c.in-NotUtf8.is)

pub returns-in-NoValue : goal.returns-in-NoValue
returns-in-NoValue c = sym (ap number_of c.in-NoValue.is)

pub returns-in-PowerTooFar : goal.returns-in-PowerTooFar
returns-in-PowerTooFar c = sym (ap number_of c.in-PowerTooFar.is)

pub returns-in-FormTooLong : goal.returns-in-FormTooLong
returns-in-FormTooLong c = sym (ap number_of c.in-FormTooLong.is)

pub returns-in-OutTooSmall : goal.returns-in-OutTooSmall
returns-in-OutTooSmall c = sym (ap number_of c.in-OutTooSmall.is)
