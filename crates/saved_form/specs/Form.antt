-- The bytes of a saved history, as docs/SAVED.md has them.
use Rattle.std.specs.Prelude.{ℕ, zero, suc, ◌+◌, ◌*◌, ◌/◌, List, [], ◌∷◌, ◌++◌, length, take, drop, replicate, if◌then◌else◌, ◌==◌}
use Rattle.std.specs.List.{flat_map}
use Rattle.std.specs.Int.{w32, w64, to_le_bytes, cast_unsigned}
use Rattle.saved_form.specs.declared.numbers.Head.{Head}
use Rattle.saved_form.specs.declared.numbers.CallNumbers.{CallNumbers}
use Rattle.saved_form.specs.declared.numbers.ReplyNumbers.{ReplyNumbers}
use Rattle.saved_form.specs.declared.numbers.EntryNumbers.{EntryNumbers}
use Rattle.saved_form.specs.Crc.{crc64}

-- a number in four bytes, or in eight, the low one first
abbrev pub four : ℕ → List ℕ
four n = to_le_bytes w32 n

abbrev pub eight : ℕ → List ℕ
eight n = to_le_bytes w64 n

-- numbers of four bytes, one behind another
abbrev pub fours : List ℕ → List ℕ
fours numbers = flat_map four numbers

-- the first bytes: the byte 137, `pidtab`, and a newline
abbrev pub magic : List ℕ
magic = 0x89 ∷ 112 ∷ 105 ∷ 100 ∷ 116 ∷ 97 ∷ 98 ∷ 10 ∷ []

-- what of the head is summed: the first bytes, the version, and the settings
unfoldable pub head_block : Head → List ℕ
head_block h =
    magic ++ four 1 ++ four h.pid_max ++ eight h.first_stamp ++ four h.workers ++ replicate 12 0

-- what the call takes beside its caller and a number: a setpgid two signed numbers in two's complement
unfoldable pub asked : CallNumbers → List ℕ
asked c = if c.operation == 7 then four (cast_unsigned w32 c.pid) ++ four (cast_unsigned w32 c.pgid) else eight c.id

-- what the reply tells: of levels, the first four
unfoldable pub reply_bytes : ReplyNumbers → List ℕ
reply_bytes r = if r.kind == 3 then fours (take 4 r.levels) else eight r.first ++ eight r.second

-- what of an entry's first block is summed
unfoldable pub first_block : EntryNumbers → List ℕ
first_block e =
    e.call.operation ∷ e.call.choice ∷ e.worker ∷ e.reply.kind ∷ e.reply.errno ∷ e.reply.refusal ∷ e.reply.count ∷ 0 ∷ []
    ++ four e.call.caller ++ four e.call.number ++ asked e.call ++ reply_bytes e.reply

-- what of a further block is summed: ten levels behind the first four. The thirty blocks' places have one more than there are levels
unfoldable pub level_block : ℕ → List ℕ → List ℕ
level_block place levels = fours (take 10 (drop (4 + 10 * place) (levels ++ 0 ∷ [])))

-- so many of them, from this one on
unfoldable pub level_blocks : ℕ → ℕ → List ℕ → List (List ℕ)
level_blocks place zero levels = []
level_blocks place (suc count) levels = level_block place levels ∷ level_blocks (suc place) count levels

-- how many further blocks there are: none up to four levels, and one for each ten behind them
abbrev pub further : ℕ → ℕ → ℕ
further kind count = if kind == 3 then (count + 5) / 10 else 0

-- the blocks of an entry
unfoldable pub entry_blocks : EntryNumbers → List (List ℕ)
entry_blocks e = first_block e ∷ level_blocks 0 (further e.reply.kind e.reply.count) e.reply.levels

-- blocks behind those whose checksum is `sum`: behind each stands the checksum of all up to it
unfoldable pub sealed : ℕ → List (List ℕ) → List ℕ
sealed sum [] = []
sealed sum (block ∷ blocks) = block ++ eight (crc64 sum block) ++ sealed (crc64 sum block) blocks

-- the checksum behind all of them
unfoldable pub sum_behind : ℕ → List (List ℕ) → ℕ
sum_behind sum [] = sum
sum_behind sum (block ∷ blocks) = sum_behind (crc64 sum block) blocks

-- the bytes of a head
abbrev pub head_bytes : Head → List ℕ
head_bytes h = sealed 0 (head_block h ∷ [])

-- the bytes of an entry behind blocks with this checksum
abbrev pub entry_bytes : ℕ → EntryNumbers → List ℕ
entry_bytes sum e = sealed sum (entry_blocks e)

-- how many they are
abbrev pub entry_size : EntryNumbers → ℕ
entry_size e = 48 * length (entry_blocks e)
