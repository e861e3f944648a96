-- Which entries the form has a place for.
use Rattle.std.specs.Prelude.{◌≡◌, ◌≢◌, ◌-◌, ◌^◌, ◌<◌, ◌≤◌, pos, ℕ, List, length, drop, replicate, All, FitsSigned}
use Rattle.std.specs.Int.{w32}
use Rattle.saved_form.specs.declared.numbers.Head.{Head}
use Rattle.saved_form.specs.declared.numbers.CallNumbers.{CallNumbers}
use Rattle.saved_form.specs.declared.numbers.ReplyNumbers.{ReplyNumbers}
use Rattle.saved_form.specs.declared.numbers.EntryNumbers.{EntryNumbers}

-- the form has a place for each number of the call
pub record HasCallPlaces (c : CallNumbers) : Type 0 where
  pub operation : c.operation < 256
  pub choice : c.choice < 256
  pub group : c.operation ≡ 7 → c.id ≡ 0
  pub other : c.operation ≢ 7 → (c.pid ≡ pos 0) × (c.pgid ≡ pos 0)

-- the numbers from this place on are 0
abbrev pub IsZeroFrom : ℕ → List ℕ → Type 0
IsZeroFrom from levels = drop from levels ≡ replicate (33 - from) 0

-- the form has a place for each number of the reply: for levels, or for two others
pub record HasReplyPlaces (r : ReplyNumbers) : Type 0 where
  pub kind : r.kind < 256
  pub errno : r.errno < 256
  pub refusal : r.refusal < 256
  pub count : r.count ≤ 33
  pub levels : r.kind ≡ 3 → (r.first ≡ 0) × (r.second ≡ 0)
  pub other : r.kind ≢ 3 → r.count ≡ 0
  pub behind : IsZeroFrom r.count r.levels

-- the form has a place for each number of the entry
pub record HasPlaces (e : EntryNumbers) : Type 0 where
  pub worker : e.worker < 256
  pub call : HasCallPlaces e.call
  pub reply : HasReplyPlaces e.reply

-- the settings' numbers fit their types
pub record HeadFits (h : Head) : Type 0 where
  pub pid_max : h.pid_max < 2 ^ 32
  pub workers : h.workers < 2 ^ 32
  pub first_stamp : h.first_stamp < 2 ^ 64

-- the numbers fit their types
pub record FitsTypes (e : EntryNumbers) : Type 0 where
  pub caller : e.call.caller < 2 ^ 32
  pub number : e.call.number < 2 ^ 32
  pub id : e.call.id < 2 ^ 64
  pub pid : FitsSigned w32 e.call.pid
  pub pgid : FitsSigned w32 e.call.pgid
  pub first : e.reply.first < 2 ^ 64
  pub second : e.reply.second < 2 ^ 64
  pub levels : All (λ level. level < 2 ^ 32) e.reply.levels
  pub length : length e.reply.levels ≡ 33
