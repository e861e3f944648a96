-- The CRC-64/XZ of bytes: the XZ file format has the algorithm, and ECMA-182 the polynomial.
use Rattle.std.specs.Prelude.{ℕ, zero, suc, ◌+◌, ◌*◌, ◌/◌, ◌%◌, ◌^◌, List, fold}
use Rattle.std.specs.Int.{w64, bit_not}
use Rattle.std.specs.Int.Bits.{bit_xor}

-- the polynomial without its highest term, x^64: bit i is the factor of x^i
abbrev pub polynomial : ℕ
polynomial = 0x42f0e1eba9ea3693

-- the lowest bits of a number, so many, in the other order
abbrev pub reflected : ℕ → ℕ → ℕ
reflected zero n = 0
reflected (suc width) n = n % 2 * 2 ^ width + reflected width (n / 2)

-- one bit goes out at the low end, which is that of the highest term: where it is 1, the polynomial is taken away
unfoldable pub bit_step : ℕ → ℕ
bit_step register = bit_xor (register / 2) (register % 2 * reflected 64 polynomial)

-- so many bits go out
unfoldable pub bit_steps : ℕ → ℕ → ℕ
bit_steps zero register = register
bit_steps (suc count) register = bit_steps count (bit_step register)

-- a byte comes in, its lowest bit first
unfoldable pub byte_step : ℕ → ℕ → ℕ
byte_step register byte = bit_steps 8 (bit_xor register byte)

-- the CRC of bytes behind those whose CRC is `sum`, which is 0 for none: all bits are turned before the bytes and behind them
unfoldable pub crc64 : ℕ → List ℕ → ℕ
crc64 sum bytes = bit_not w64 (fold byte_step (bit_not w64 sum) bytes)

-- four bits where they stand, all others 0
unfoldable pub nibble : ℕ → ℕ → ℕ
nibble place n = n / 2 ^ (4 * place) % 16 * 2 ^ (4 * place)
