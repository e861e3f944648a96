use Rattle.std.proofs.Common.{◌≡◌, ℕ, List, Option, Some, None, sym}
use Rattle.pid_script.specs.Reading.{cut, number_below, number_then}
use Rattle.replica.proofs.words.read_number_then.Goals as goal

no_number : (bound : ℕ) (words word rest : List ℕ) (n : Option ℕ) → Some (word, rest) ≡ cut 32 words → n ≡ number_below bound word → n ≡ None
    → number_then bound words ≡ None
no_number bound words word rest n parts is none = rw (← parts, ← is, none)

a_number : (bound : ℕ) (words word rest : List ℕ) (n : Option ℕ) (x : ℕ) → Some (word, rest) ≡ cut 32 words → n ≡ number_below bound word → n ≡ Some x
    → number_then bound words ≡ Some (x, rest)
a_number bound words word rest n x parts is some = rw (← parts, ← is, some)

pub returns-in_err-read_u64 : goal.returns-in_err-read_u64
returns-in_err-read_u64 c =
    let parts = c.in_ok-word in
    rw c.from_residual-in_err-read_u64.ensures
    (sym (no_number _ c.args.words.now parts.word.now parts.rest.now c.read_u64.result parts.ensures c.read_u64.ensures c.in_err-read_u64.was))

pub returns : goal.returns
returns c =
    let parts = c.in_ok-word in
    sym (a_number _ c.args.words.now parts.word.now parts.rest.now c.read_u64.result c.in_ok-read_u64.field-0 parts.ensures c.read_u64.ensures c.in_ok-read_u64.was)
