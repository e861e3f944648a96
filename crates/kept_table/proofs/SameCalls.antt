-- Replies are what the calls make of the state that they begin in.
use Rattle.std.proofs.Common.{◌≡◌, ℕ, ◌+◌, List, [], ◌∷◌, refl, sym, ap, ◌∙◌}
use Rattle.pid_types.specs.declared.call.Call.{Call}
use Rattle.pid_types.specs.declared.entry.Entry.{Entry}
use Rattle.pid_types.specs.declared.reply.Reply.{Reply}
use Rattle.pid_types.specs.State.{State}
use Rattle.pid_types.specs.Step.{step}
use Rattle.pid_types.specs.Replay.{calls_of, replies, state_after, Replays}
use Rattle.kept_table.specs.Chronicle.{first_kept_stamp}
use Rattle.kept_past.specs.Stored.{replies_of}
use Rattle.kept_table.specs.Replicas.{SameCallsSameReplies}

both : (x y : Reply) (xs ys : List Reply) → x ≡ y → xs ≡ ys → x ∷ xs ≡ y ∷ ys
both x y xs ys h t = ap (λ (r : Reply). r ∷ xs) h ∙ ap (λ (rs : List Reply). y ∷ rs) t

told : (state : State) (stamp : ℕ) (entries : List Entry) → Replays state stamp entries → replies_of entries ≡ replies state stamp (calls_of entries)
told state stamp [] h = refl
told state stamp (e ∷ entries) h = both _ _ _ _ (sym h.0) (told (step state stamp e.call).state (stamp + 1) entries h.1)

pub same_calls : SameCallsSameReplies
same_calls a b ra rb from first calls =
    let from_a : replies_of a.entries ≡ replies a.opening (first_kept_stamp a) (calls_of a.entries) = told a.opening (first_kept_stamp a) a.entries ra.run.replays in
    let from_b : replies_of b.entries ≡ replies b.opening (first_kept_stamp b) (calls_of b.entries) = told b.opening (first_kept_stamp b) b.entries rb.run.replays in
    let over : replies a.opening (first_kept_stamp a) (calls_of a.entries) ≡ replies b.opening (first_kept_stamp b) (calls_of b.entries) =
    ap (λ (s : State). replies s (first_kept_stamp a) (calls_of a.entries)) from
    ∙ (ap (λ (n : ℕ). replies b.opening n (calls_of a.entries)) first
    ∙ ap (λ (cs : List Call). replies b.opening (first_kept_stamp b) cs) calls) in
    let after : state_after a.opening (first_kept_stamp a) (calls_of a.entries) ≡ state_after b.opening (first_kept_stamp b) (calls_of b.entries) =
    ap (λ (s : State). state_after s (first_kept_stamp a) (calls_of a.entries)) from
    ∙ (ap (λ (n : ℕ). state_after b.opening n (calls_of a.entries)) first
    ∙ ap (λ (cs : List Call). state_after b.opening (first_kept_stamp b) cs) calls) in
    (from_a ∙ (over ∙ sym from_b), ra.run.ends ∙ (after ∙ sym rb.run.ends))
