-- Bits that go out of a register: what goes out of two numbers under xor is what goes out of each.
use Rattle.std.proofs.Common.{◌≡◌, ℕ, zero, suc, ◌+◌, ◌*◌, ◌/◌, ◌%◌, ◌^◌, ◌<◌, bit_xor, refl, ap, sym, ◌∙◌, arith, mod-lt, pow_pos, zero-mul}
use Rattle.std.proofs.lemmas.Nat.{mod-pow-add, xor_comm, xor_mod, xor_shr}
use lib.Bits.{xor_assoc, xor_self, xor_shifted, xor_zero_r, shifted_half, shifted_even}
use Rattle.saved_form.specs.Crc.{bit_step, bit_steps}
use Rattle.saved_form.specs.Crc.{nibble}

-- the constant of the code is the polynomial with its bits in the other order
pub bit_step_is : (n : ℕ) → bit_step n ≡ bit_xor (n / 2) (n % 2 * 0xc96c5795d7870f42)
unfolding bit_step
bit_step_is n = refl

pub xor_exchange : (a b c d : ℕ) → bit_xor (bit_xor a b) (bit_xor c d) ≡ bit_xor (bit_xor a c) (bit_xor b d)
xor_exchange a b c d =
    xor_assoc a b (bit_xor c d)
    ∙ ap (bit_xor a) (sym (xor_assoc b c d) ∙ ap (λ x. bit_xor x d) (xor_comm b c) ∙ xor_assoc c b d)
    ∙ sym (xor_assoc a c (bit_xor b d))

bit_times : (p x y : ℕ) → x < 2 → y < 2 → bit_xor x y * p ≡ bit_xor (x * p) (y * p)
bit_times p zero y h k = rw (zero-mul p) refl
bit_times p (suc zero) zero h k = sym (ap (bit_xor (1 * p)) (zero-mul p) ∙ xor_zero_r (1 * p))
bit_times p (suc zero) (suc zero) h k = zero-mul p ∙ sym (xor_self (1 * p))
bit_times p (suc zero) (suc (suc y)) h k = absurd (omega arith)
bit_times p (suc (suc x)) y h k = absurd (omega arith)

bit_step-xor : (a b : ℕ) → bit_step (bit_xor a b) ≡ bit_xor (bit_step a) (bit_step b)
bit_step-xor a b =
    let p : ℕ = 0xc96c5795d7870f42 in
    let low : bit_xor a b % 2 * p ≡ bit_xor (a % 2 * p) (b % 2 * p) =
    ap (λ n. n * p) (xor_mod a b 1) ∙ bit_times p (a % 2) (b % 2) (omega arith) (omega arith) in
    bit_step_is (bit_xor a b)
    ∙ (λ i. bit_xor (xor_shr a b 1 i) (low i))
    ∙ xor_exchange (a / 2) (b / 2) (a % 2 * p) (b % 2 * p)
    ∙ sym (λ i. bit_xor (bit_step_is a i) (bit_step_is b i))

pub bit_steps-xor : (k a b : ℕ) → bit_steps k (bit_xor a b) ≡ bit_xor (bit_steps k a) (bit_steps k b)
unfolding bit_steps
bit_steps-xor zero a b = refl
bit_steps-xor (suc k) a b = ap (bit_steps k) (bit_step-xor a b) ∙ bit_steps-xor k (bit_step a) (bit_step b)

-- bits that are 0 go out and change nothing else
pub bit_steps-shifted : (k n : ℕ) → bit_steps k (n * 2 ^ k) ≡ n
unfolding bit_steps
bit_steps-shifted zero n = omega arith
bit_steps-shifted (suc k) n =
    let even : n * 2 ^ suc k % 2 * 0xc96c5795d7870f42 ≡ 0 = omega (arith, shifted_even n k) in
    let step : bit_step (n * 2 ^ suc k) ≡ n * 2 ^ k =
    bit_step_is (n * 2 ^ suc k) ∙ (λ i. bit_xor (shifted_half n k i) (even i)) ∙ xor_zero_r (n * 2 ^ k) in
    ap (bit_steps k) step ∙ bit_steps-shifted k n

pub bit_steps-add : (j k n : ℕ) → bit_steps (j + k) n ≡ bit_steps k (bit_steps j n)
unfolding bit_steps
bit_steps-add zero k n = let e : 0 + k ≡ k = omega arith in ap (λ m. bit_steps m n) e
bit_steps-add (suc j) k n = let e : suc j + k ≡ suc (j + k) = omega arith in ap (λ m. bit_steps m n) e ∙ bit_steps-add j k (bit_step n)

-- four bits more of a register
pub nibble_more : (place n : ℕ) → bit_xor (n % 2 ^ (4 * place)) (nibble place n) ≡ n % 2 ^ (4 * (place + 1))
unfolding nibble
nibble_more place n =
    let k : ℕ = 4 * place in
    let more : 4 * (place + 1) ≡ 4 + k = omega arith in
    xor_comm (n % 2 ^ k) (n / 2 ^ k % 16 * 2 ^ k)
    ∙ xor_shifted (n / 2 ^ k % 16) k (n % 2 ^ k) (mod-lt n (pow_pos k))
    ∙ sym (ap (λ m. n % 2 ^ m) more ∙ mod-pow-add n 4 k)
