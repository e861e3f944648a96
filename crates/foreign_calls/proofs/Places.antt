-- Each call and each reply has a place in the form of saved histories.
use Rattle.std.proofs.Common.{◌≡◌, ◌≢◌, ◌+◌, ◌-◌, ◌<◌, ◌≤◌, ◌++◌, ℕ, Bool, true, false, List, length, drop, replicate, Some, None, inl, inr, refl, sym, ap, subst, ◌∙◌, arith, length-append}
use Rattle.std.specs.Prelude.{pos, ◌⊎◌}
use Rattle.std.proofs.lemmas.List.{drop-replicate, length-drop, length-replicate}
use Rattle.std.proofs.Math.Seq.{drop-append_seam}
use Rattle.pid_types.specs.declared.call.Call.{Call}
use Rattle.pid_types.specs.declared.call.Call.TheVariants.{Fork, GetPid, NsPid, Exec, Exit, Wait, GetPpid, SetPgid}
use Rattle.pid_types.specs.declared.call.Call.TheVariants.{SetSid, MakeControl, RemoveControl, SetLimit, Move, Count}
use Rattle.pid_types.specs.declared.call.Call.TheVariants.{GetPgid, GetSid, Next, Join, SetSubreaper}
use Rattle.pid_types.specs.declared.call.Which.TheVariants.{Any, Pid, OwnGroup, Group}
use Rattle.pid_types.specs.declared.call.Kind.TheVariants as kind
use Rattle.pid_types.specs.declared.plain.Ended.TheVariants.{Exited, Killed}
use Rattle.pid_types.specs.declared.reply.Refusal.{Refusal}
use Rattle.pid_types.specs.declared.reply.Refusal.TheVariants as why
use Rattle.pid_types.specs.declared.reply.Reply.{Reply}
use Rattle.pid_types.specs.declared.reply.Reply.TheVariants.{Forked, Done, Number, Levels, Reaped, NoneYet, Counted, Control, End, Refused}
use Rattle.kept_table.specs.Chronicle.{Chronicle}
use Rattle.saved_form.specs.declared.numbers.CallNumbers.{CallNumbers}
use Rattle.saved_form.specs.declared.numbers.EntryNumbers.{EntryNumbers}
use Rattle.saved_form.specs.declared.numbers.ReplyNumbers.{ReplyNumbers}
use Rattle.saved_form.specs.Places.{FitsTypes, HasCallPlaces, HasPlaces, HasReplyPlaces, IsZeroFrom}
use Rattle.foreign_numbers.specs.CallNumbers.{call_numbers}
use Rattle.foreign_numbers.specs.Numbers.{numbers_of, refusal_numbers, with_zeroes}
use Rattle.foreign_calls.specs.Entries.{TellsEntry}

-- a call that names no process group
plain : (operation caller id number choice : ℕ) → (operation < 7) ⊎ (7 < operation) → operation < 256 → choice < 256
    → HasCallPlaces (record { operation = operation; caller = caller; id = id; number = number; choice = choice; pid = pos 0; pgid = pos 0 })
plain operation caller id number choice other small few = record {
  operation = small;
  choice = few;
  group = λ seven. elim other [ inl lt ↦ absurd (omega (arith, seven, lt)) | inr gt ↦ absurd (omega (arith, seven, gt)) ];
  other = λ not. (refl, refl);
}

call_places : (call : Call) → HasCallPlaces (call_numbers call)
unfolding call_numbers
call_places (Fork caller false) = plain 0 caller 0 0 0 (inl (omega arith)) (omega arith) (omega arith)
call_places (Fork caller true) = plain 0 caller 0 0 1 (inl (omega arith)) (omega arith) (omega arith)
call_places (GetPid caller) = plain 1 caller 0 0 0 (inl (omega arith)) (omega arith) (omega arith)
call_places (NsPid caller target) = plain 2 caller 0 target 0 (inl (omega arith)) (omega arith) (omega arith)
call_places (Exec caller) = plain 3 caller 0 0 0 (inl (omega arith)) (omega arith) (omega arith)
call_places (Exit caller status) = plain 4 caller 0 status 0 (inl (omega arith)) (omega arith) (omega arith)
call_places (Wait caller Any) = plain 5 caller 0 0 0 (inl (omega arith)) (omega arith) (omega arith)
call_places (Wait caller (Pid number)) = plain 5 caller 0 number 1 (inl (omega arith)) (omega arith) (omega arith)
call_places (Wait caller OwnGroup) = plain 5 caller 0 0 2 (inl (omega arith)) (omega arith) (omega arith)
call_places (Wait caller (Group number)) = plain 5 caller 0 number 3 (inl (omega arith)) (omega arith) (omega arith)
call_places (GetPpid caller) = plain 6 caller 0 0 0 (inl (omega arith)) (omega arith) (omega arith)
call_places (SetPgid caller pid pgid) = record { operation = omega arith; choice = omega arith; group = λ seven. refl; other = λ not. absurd (not refl) }
call_places (SetSid caller) = plain 8 caller 0 0 0 (inr (omega arith)) (omega arith) (omega arith)
call_places (MakeControl parent) = plain 9 0 parent 0 0 (inr (omega arith)) (omega arith) (omega arith)
call_places (RemoveControl id) = plain 10 0 id 0 0 (inr (omega arith)) (omega arith) (omega arith)
call_places (SetLimit id None) = plain 11 0 id 0 0 (inr (omega arith)) (omega arith) (omega arith)
call_places (SetLimit id (Some number)) = plain 11 0 id number 1 (inr (omega arith)) (omega arith) (omega arith)
call_places (Move task id) = plain 12 task id 0 0 (inr (omega arith)) (omega arith) (omega arith)
call_places (Count id) = plain 13 0 id 0 0 (inr (omega arith)) (omega arith) (omega arith)
call_places (GetPgid caller pid) = plain 14 caller 0 pid 0 (inr (omega arith)) (omega arith) (omega arith)
call_places (GetSid caller pid) = plain 15 caller 0 pid 0 (inr (omega arith)) (omega arith) (omega arith)
call_places (Next caller kind.Task from) = plain 16 caller 0 from 0 (inr (omega arith)) (omega arith) (omega arith)
call_places (Next caller kind.Group from) = plain 16 caller 0 from 1 (inr (omega arith)) (omega arith) (omega arith)
call_places (Next caller kind.Session from) = plain 16 caller 0 from 2 (inr (omega arith)) (omega arith) (omega arith)
call_places (Join caller target) = plain 17 caller 0 target 0 (inr (omega arith)) (omega arith) (omega arith)
call_places (SetSubreaper caller false) = plain 18 caller 0 0 0 (inr (omega arith)) (omega arith) (omega arith)
call_places (SetSubreaper caller true) = plain 18 caller 0 0 1 (inr (omega arith)) (omega arith) (omega arith)

-- a reply without levels
short : (kind errno refusal first second : ℕ) → (kind < 3) ⊎ (3 < kind) → kind < 256 → errno < 256 → refusal < 256
    → HasReplyPlaces (record { kind = kind; errno = errno; refusal = refusal; count = 0; first = first; second = second; levels = replicate 33 0 })
short kind errno refusal first second other small error number = record {
  kind = small;
  errno = error;
  refusal = number;
  count = omega arith;
  levels = λ three. elim other [ inl lt ↦ absurd (omega (arith, three, lt)) | inr gt ↦ absurd (omega (arith, three, gt)) ];
  other = λ not. refl;
  behind = refl;
}

why_places : (refusal : Refusal) → HasReplyPlaces (refusal_numbers refusal)
why_places why.NoCaller = short 9 3 1 0 0 (inr (omega arith)) (omega arith) (omega arith) (omega arith)
why_places why.NoTask = short 9 3 2 0 0 (inr (omega arith)) (omega arith) (omega arith) (omega arith)
why_places why.NoChild = short 9 10 3 0 0 (inr (omega arith)) (omega arith) (omega arith) (omega arith)
why_places (why.NoNumber space) = short 9 11 4 space 0 (inr (omega arith)) (omega arith) (omega arith) (omega arith)
why_places (why.PidsLimit control) = short 9 11 5 control 0 (inr (omega arith)) (omega arith) (omega arith) (omega arith)
why_places why.SpaceFallen = short 9 12 6 0 0 (inr (omega arith)) (omega arith) (omega arith) (omega arith)
why_places why.TooDeep = short 9 28 7 0 0 (inr (omega arith)) (omega arith) (omega arith) (omega arith)
why_places why.Elsewhere = short 9 22 8 0 0 (inr (omega arith)) (omega arith) (omega arith) (omega arith)
why_places why.BadGroup = short 9 22 9 0 0 (inr (omega arith)) (omega arith) (omega arith) (omega arith)
why_places why.OtherSession = short 9 1 10 0 0 (inr (omega arith)) (omega arith) (omega arith) (omega arith)
why_places why.IsLeader = short 9 1 11 0 0 (inr (omega arith)) (omega arith) (omega arith) (omega arith)
why_places why.NoGroup = short 9 1 12 0 0 (inr (omega arith)) (omega arith) (omega arith) (omega arith)
why_places why.Executed = short 9 13 13 0 0 (inr (omega arith)) (omega arith) (omega arith) (omega arith)
why_places why.RootInit = short 9 16 14 0 0 (inr (omega arith)) (omega arith) (omega arith) (omega arith)
why_places why.NoControl = short 9 2 15 0 0 (inr (omega arith)) (omega arith) (omega arith) (omega arith)
why_places why.ControlBusy = short 9 16 16 0 0 (inr (omega arith)) (omega arith) (omega arith) (omega arith)
why_places why.RootControl = short 9 22 17 0 0 (inr (omega arith)) (omega arith) (omega arith) (omega arith)
why_places why.BadLimit = short 9 22 18 0 0 (inr (omega arith)) (omega arith) (omega arith) (omega arith)
why_places why.ControlDepth = short 9 11 19 0 0 (inr (omega arith)) (omega arith) (omega arith) (omega arith)

-- levels that fit 33 places have zeroes behind them
zero_behind : (numbers : List ℕ) → IsZeroFrom (length numbers) (with_zeroes numbers)
zero_behind numbers = drop-append_seam numbers _ ∙ drop-replicate (length numbers) 33 0

reply_places : (reply : Reply) → length (numbers_of reply).levels ≡ 33 → HasReplyPlaces (numbers_of reply)
unfolding numbers_of
reply_places (Forked child root) fits = short 0 0 0 child root (inl (omega arith)) (omega arith) (omega arith) (omega arith)
reply_places Done fits = short 1 0 0 0 0 (inl (omega arith)) (omega arith) (omega arith) (omega arith)
reply_places (Number number) fits = short 2 0 0 number 0 (inl (omega arith)) (omega arith) (omega arith) (omega arith)
reply_places (Levels numbers) fits = record {
  kind = omega arith;
  errno = omega arith;
  refusal = omega arith;
  count = omega (arith, fits, length-append numbers.items (drop (length numbers.items) (replicate 33 0)));
  levels = λ three. (refl, refl);
  other = λ not. absurd (not refl);
  behind = zero_behind numbers.items;
}
reply_places (Reaped child (Exited status)) fits = short 4 0 0 child status (inr (omega arith)) (omega arith) (omega arith) (omega arith)
reply_places (Reaped child Killed) fits = short 4 0 0 child 256 (inr (omega arith)) (omega arith) (omega arith) (omega arith)
reply_places NoneYet fits = short 5 0 0 0 0 (inr (omega arith)) (omega arith) (omega arith) (omega arith)
reply_places (Counted count) fits = short 6 0 0 count 0 (inr (omega arith)) (omega arith) (omega arith) (omega arith)
reply_places (Control id) fits = short 7 0 0 id 0 (inr (omega arith)) (omega arith) (omega arith) (omega arith)
reply_places End fits = short 8 0 0 0 0 (inr (omega arith)) (omega arith) (omega arith) (omega arith)
reply_places (Refused refusal) fits = why_places refusal

-- an entry that is told
pub entry_places : (c : Chronicle) (ordinal : ℕ) (n : EntryNumbers) → TellsEntry c ordinal (Some n) → FitsTypes n → n.worker < 256 → HasPlaces n
entry_places c ordinal n told fits worker = record {
  worker = worker;
  call = subst HasCallPlaces (sym told.call_is) (call_places told.entry.call);
  reply = subst HasReplyPlaces (sym told.reply_is) (reply_places told.entry.reply (ap (λ (r : ReplyNumbers). length r.levels) (sym told.reply_is) ∙ fits.length));
}
