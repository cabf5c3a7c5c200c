-- A number in decimal, digit by digit. Assumes nothing.
use Rattle.std.proofs.Common.{sym, rules, arith}
use Rattle.std.proofs.lemmas.Fmt.{AppendsLastDigit, decimal_from_appends, length-decimal-le}
use Rattle.text.specs.Text.{decimal_within, DigitByDigit}

appends : AppendsLastDigit decimal_within
unfolding decimal_within
appends = search rules

pub digit_by_digit : DigitByDigit
digit_by_digit n h = sym (decimal_from_appends decimal_within appends 20 n h (length-decimal-le 20 n (omega arith) (omega arith) h))
