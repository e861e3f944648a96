-- How long numbers are.
use Rattle.std.proofs.Common.{ℕ, ◌^◌, ◌<◌, ◌≤◌, length, decimal, arith, lit<}
use Rattle.std.proofs.lemmas.Fmt.{length-decimal-le}

pub length_decimal_of_64 : (n : ℕ) → n < 2 ^ 64 → length (decimal n) ≤ 20
length_decimal_of_64 n below = length-decimal-le 20 n (lit< tt) (omega arith) below

pub length_decimal_of_32 : (n : ℕ) → n < 2 ^ 32 → length (decimal n) ≤ 10
length_decimal_of_32 n below = length-decimal-le 10 n (lit< tt) (omega arith) (omega arith)

pub ruleset room = (length_decimal_of_64, length_decimal_of_32)
