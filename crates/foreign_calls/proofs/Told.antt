-- What is told where a function is done, or why it is not.
use Rattle.std.proofs.Common.{◌≡◌, ◌<◌, ◌++◌, ◌∷◌, ◌↔◌, ◌∙◌, [], ℕ, List, length, take, Option, Some, None, Result, Err, IsTrue, option_map, refl, sym, ap, subst, inl, inr, arith}
use Rattle.std.proofs.lemmas.Bool.Decides.{leb_tells}
use Rattle.std.proofs.lemmas.Option.{none-some, same_Some}
use Rattle.pid_types.specs.declared.call.Call.{Call}
use Rattle.pid_types.specs.declared.reply.CallFault.{CallFault}
use Rattle.pid_types.specs.declared.reply.CallFault.TheVariants.{NoMemory, Spent}
use Rattle.pid_types.specs.declared.reply.Reply.{Reply}
use Rattle.pid_types.specs.Step.{may_grow}
use Rattle.saved_form.specs.declared.numbers.ReplyNumbers.{ReplyNumbers}
use Rattle.kept_past.specs.Past.{IsCaughtUp, Waiting}
use Rattle.kept_table.specs.Calls.{counted, entry_of, nothing_spare, outcome, MakesRoom}
use Rattle.kept_table.specs.Chronicle.{Chronicle, next_stamp, total}
use Rattle.foreign_numbers.specs.Numbers.{numbers_of}
use Rattle.foreign_numbers.specs.declared.status.TheConstants.{DONE, NOT_KEPT, NO_ROOM, OUT_OF_RANGE, SPENT, NO_MEMORY}
use Rattle.foreign_calls.specs.Held.{IsDoneOr}
use Rattle.foreign_calls.specs.Made.{IsSpent}
use Rattle.foreign_calls.specs.Calls.{HasMade, MakesCall, MakesSaid}
use Rattle.foreign_calls.specs.Records.{memoryless, roomless}
use Rattle.foreign_handles.specs.Held.{stamped}
use Rattle.foreign_handles.specs.declared.held.Held.{Held}
use Rattle.foreign_handles.specs.declared.held.Held.TheVariants.{Bare, Recorded}
use Rattle.stamped_table.specs.Stamped.{Stamped, after_call}
use Rattle.foreign_calls.specs.Replicas.{TellsFound}
use Rattle.foreign_calls.specs.Rooms.{KeepsRoom, PutsLine}

-- those of the last reply
pub last_told : (last : Option Reply) (told : Reply) (new : ReplyNumbers) → last ≡ Some told → Some new ≡ option_map numbers_of last → new ≡ numbers_of told
last_told last told new is tells = same_Some new (numbers_of told) (tells ∙ ap (option_map numbers_of) is)

pub again_told : (last : Option Reply) (told made : Reply) (tells saved : ReplyNumbers) → tells ≡ saved → last ≡ Some made → last ≡ Some told → tells ≡ numbers_of told
    → saved ≡ numbers_of made
again_told last told made tells saved same is here of = sym same ∙ of ∙ ap numbers_of (same_Some told made (sym here ∙ is))

-- what is there is told, and that nothing is
pub tells_found : {X : Type 0} (found : Option X) (before after : X) → found ≡ Some after → TellsFound found before after NOT_KEPT DONE
tells_found found before after is = record {
  done = λ _. is;
  not_there = (
    λ not. let z : DONE ≡ NOT_KEPT = not in absurd (omega (arith, z)),
    λ none. absurd (none-some after (sym none ∙ is)),
  );
  not_done = λ not. absurd (not refl);
}

pub tells_none : {X : Type 0} (found : Option X) (before : X) → found ≡ None → TellsFound found before before NOT_KEPT NOT_KEPT
tells_none found before none = record {
  done = λ done. let z : NOT_KEPT ≡ DONE = done in absurd (omega (arith, z));
  not_there = (λ _. none, λ _. refl);
  not_done = λ _. refl;
}

-- only room was made
roomless_same : (c d : Chronicle) → MakesRoom c d → roomless d ≡ roomless c
roomless_same c d makes = ap roomless makes.same ∙ ap (λ (w : Waiting). record c { memory = record { room = 0; waits = w } }) makes.waits

-- the worker's call was made and recorded, or not
pub makes_recorded : (c d : Chronicle) (worker : ℕ) (call : Call) (before place : ℕ) → worker < length c.cut → (IsSpent (next_stamp c) → ⊥) → place ≡ total c
    → d.entries ≡ c.entries ++ entry_of c worker call ∷ [] → d.present ≡ (outcome c call).state → d ≡ counted c d.entries d.present d.memory → IsCaughtUp 2 c.memory.waits d.memory.waits
    → MakesCall (Recorded c) worker call before place DONE (Recorded d)
makes_recorded c d worker call before place known unspent at history step others moved = record {
  done = λ _. record { left = ap Some (ap memoryless others ∙ (λ i. counted c (history i) (step i) nothing_spare)); moved = moved; place = at };
  not_done = λ not. absurd (not refl);
  why = record {
    out_of_range = (λ out. let z : DONE ≡ OUT_OF_RANGE = out in absurd (omega (arith, z)), λ past. absurd (omega (arith, past, known)));
    spent = (λ spent. let z : DONE ≡ SPENT = spent in absurd (omega (arith, z)), λ p. absurd (unspent p.1));
    no_memory = λ none. let z : DONE ≡ NO_MEMORY = none in absurd (omega (arith, z));
    statuses = inl refl;
  };
}

pub makes_none : {A : Type 0} (r : Result A CallFault) (fault : CallFault) (c d : Chronicle) (worker : ℕ) (call : Call) (ordinal status : ℕ) → r ≡ Err fault
    → worker < length c.cut → MakesRoom c d → ((r ≡ Err Spent) ↔ IsSpent (next_stamp c))
    → (r ≡ Err NoMemory → 0 < c.memory.room → IsTrue (may_grow call)) → (fault ≡ NoMemory → status ≡ NO_MEMORY) → (fault ≡ Spent → status ≡ SPENT)
    → MakesCall (Recorded c) worker call ordinal ordinal status (Recorded d)
makes_none r NoMemory c d worker call ordinal status err known makes spent grows none spends =
    let is : status ≡ NO_MEMORY = none refl in record {
      done = λ done. let z : NO_MEMORY ≡ DONE = sym is ∙ done in absurd (omega (arith, z));
      not_done = λ _. (ap Recorded (roomless_same c d makes), refl);
      why = record {
        out_of_range = (λ out. let z : NO_MEMORY ≡ OUT_OF_RANGE = sym is ∙ out in absurd (omega (arith, z)), λ past. absurd (omega (arith, past, known)));
        spent = (λ gone. let z : NO_MEMORY ≡ SPENT = sym is ∙ gone in absurd (omega (arith, z)), λ p. let never = sym err ∙ spent.1 p.1 in cc never);
        no_memory = λ _. grows err;
        statuses = inr (inr (inr is));
      };
    }
makes_none r Spent c d worker call ordinal status err known makes spent grows none spends =
    let is : status ≡ SPENT = spends refl in record {
      done = λ done. let z : SPENT ≡ DONE = sym is ∙ done in absurd (omega (arith, z));
      not_done = λ _. (ap Recorded (roomless_same c d makes), refl);
      why = record {
        out_of_range = (λ out. let z : SPENT ≡ OUT_OF_RANGE = sym is ∙ out in absurd (omega (arith, z)), λ past. absurd (omega (arith, past, known)));
        spent = (λ _. (known, spent.0 err), λ _. is);
        no_memory = λ gone. let z : SPENT ≡ NO_MEMORY = sym is ∙ gone in absurd (omega (arith, z));
        statuses = inr (inr (inl is));
      };
    }

-- whose call was made is a worker
pub is_known : (c : Chronicle) (worker : ℕ) (call : Call) (before ordinal status : ℕ) (d : Chronicle) → status ≡ DONE
    → MakesCall (Recorded c) worker call before ordinal status (Recorded d) → worker < length c.cut
is_known c worker call before ordinal status d done makes =
    elim (leb_tells (length c.cut) worker) [
      | inl past ↦ let z : DONE ≡ OUT_OF_RANGE = sym done ∙ makes.why.out_of_range.1 past.1 in absurd (omega (arith, z))
      | inr within ↦ within.1
    ]

-- what was made leaves the model's state, whether it is recorded or not
pub state_made : (h new : Held) (worker : ℕ) (call : Call) (before ordinal : ℕ) → HasMade h worker call before ordinal new
    → (stamped new).state ≡ (after_call (stamped h) call).state
state_made (Bare s) new worker call before ordinal made = ap (λ (n : Held). (stamped n).state) made.0
state_made (Recorded c) (Bare t) worker call before ordinal made = absurd made.moved
state_made (Recorded c) (Recorded d) worker call before ordinal made = ap (λ (e : Chronicle). e.present) (same_Some (memoryless d) _ made.left)

-- worker 0 of a table without a history makes a call, and no place is told
pub by_worker_0 : (h : Held) (s : Stamped) (worker : ℕ) (call : Call) (place status : ℕ) (new : Held) → h ≡ Bare s → worker ≡ 0
    → MakesCall (Bare s) 0 call 0 0 status new → MakesCall h worker call place place status new
by_worker_0 h s worker call place status new is zero makes =
    subst (λ (g : Held). MakesCall g worker call place place status new) (sym is)
    (subst (λ (w : ℕ). MakesCall (Bare s) w call place place status new) (sym zero)
    (record { done = λ done. ((makes.done done).0, refl); not_done = λ not. ((makes.not_done not).0, refl); why = makes.why }))

pub said_by_worker_0 : (h : Held) (s : Stamped) (worker : ℕ) (said : Option Call) (old new : ReplyNumbers) (place status : ℕ) (after : Held) → h ≡ Bare s → worker ≡ 0
    → MakesSaid (Bare s) 0 said old new 0 0 status after → MakesSaid h worker said old new place place status after
said_by_worker_0 h s worker said old new place status after is zero makes =
    subst (λ (g : Held). MakesSaid g worker said old new place place status after) (sym is)
    (subst (λ (w : ℕ). MakesSaid (Bare s) w said old new place place status after) (sym zero)
    (record {
      done = λ done. let made = makes.done done in (made.0, made.1, (made.2.0, refl), made.3);
      not_done = λ not. let left = makes.not_done not in (left.0, left.1, refl);
      why = makes.why;
    }))

-- a line is put, or there is no room for it
within_range : (status : ℕ) → IsDoneOr status (NO_ROOM ∷ []) → status ≡ OUT_OF_RANGE → ⊥
within_range status (inl done) out = let z : DONE ≡ OUT_OF_RANGE = sym done ∙ out in omega (arith, z)
within_range status (inr full) out = let z : NO_ROOM ≡ OUT_OF_RANGE = sym full ∙ out in omega (arith, z)

pub puts_line : {X : Type 0} (said : Option X) (x : X) (text : X → List ℕ) (line old new : List ℕ) (before size status : ℕ) → said ≡ Some x → line ≡ text x
    → size ≡ length line → (status ≡ DONE → take size new ≡ line) → KeepsRoom old new size status → ((status ≡ NO_ROOM) ↔ (length old < length line))
    → IsDoneOr status (NO_ROOM ∷ []) → PutsLine said text old new before size status
puts_line said x text line old new before size status is of long put keeps full statuses = record {
  done = λ done. (x, is, put done ∙ of);
  room = keeps;
  out_of_range = (λ out. absurd (within_range status statuses out), λ none. absurd (none-some x (sym none ∙ is)));
  no_room = λ none. (x, is, long ∙ ap length of, omega (arith, full.0 none, long));
  same_size = λ out. absurd (within_range status statuses out);
  statuses = elim statuses [
    | inl done ↦ inl done
    | inr none ↦ inr (inr none)
  ];
}
