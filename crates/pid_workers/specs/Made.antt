-- The calls that a record has made.
use Rattle.std.specs.Prelude.{◌≡◌, List, ◌++◌, map}
use Rattle.pid_types.specs.declared.call.Call.{Call}
use Rattle.pid_types.specs.declared.entry.Entry.{Entry}
use Rattle.pid_types.specs.declared.reply.Reply.{Reply}
use Rattle.kept_table.specs.Chronicle.{Chronicle}

-- the calls of the kept history, with their replies
abbrev pub kept_calls : Chronicle → List (Call × Reply)
kept_calls c = map (λ (e : Entry). (e.call, e.reply)) c.entries

-- between two moments a record made these calls, and nothing of its history was cut away
pub record MakesCalls (before after : Chronicle) (calls : List (Call × Reply)) : Type 0 where
  pub config : after.config ≡ before.config
  pub resumed : after.is_resumed ≡ before.is_resumed
  pub whole : after.first_kept ≡ before.first_kept
  pub made : kept_calls after ≡ kept_calls before ++ calls
