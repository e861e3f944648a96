-- In a sound state a number is a process's or one thread's, so it names one process; and the last thread that leaves ends its process.
use Rattle.model_laws.proofs.Words.{◌≡◌, ℕ, ◌==◌, Some, sym, ap, ◌∙◌, subst, inl, inr, eq-eqb, if◌then◌else◌, Row, Thread, State, number, root_number, running, names_in_use, IsIn, IsCoherent, Done, NoCaller, changed, for_found, ends, exit, without_caller, leave, step, thread_step}
use Rattle.model_laws.proofs.Ground.{same_row, own_in_use, own_name_in_use, thread_in_use}
use Rattle.model_laws.proofs.Callers.{same_root, same_thread, thread_apart}
use Rattle.model_laws.specs.ThreadLaws.{OneCaller, OneIsNamed, LastLeavingEnds}

-- one process calls by the root number
pub one_caller : OneCaller
one_caller state n a b sound (i, _, inl t) (j, _, inl u) =
    same_row state.rows sound.coherent.rows_rise a b i j
    (sym t.3 ∙ ap (λ (v : Thread). v.process) (same_thread state sound.coherent t.0 u.0 t.1 u.1 (t.2 ∙ sym u.2)) ∙ u.3)
one_caller state n a b sound (i, _, inl t) (j, _, inr first) = absurd (thread_apart state sound.coherent t.0 b t.1 j (t.2 ∙ sym first.1))
one_caller state n a b sound (i, _, inr first) (j, _, inl u) = absurd (thread_apart state sound.coherent u.0 a u.1 i (u.2 ∙ sym first.1))
one_caller state n a b sound (i, _, inr first) (j, _, inr other) =
    same_row state.rows sound.coherent.rows_rise a b i j
    (same_root state sound.coherent a.name b.name (own_in_use state a i) (own_in_use state b j) (first.1 ∙ sym other.1))

-- no thread has a number of a process
apart : (state : State) → IsCoherent state → (t : Thread) (row : Row) (s n : ℕ) → IsIn t state.threads → IsIn row state.rows
    → number state.spaces t.name s ≡ Some n → number state.spaces row.name s ≡ Some n → ⊥
apart state sound t row s n i j e f =
    let one : t.name ≡ row.name = sound.distinct t.name row.name (thread_in_use state t i) (own_in_use state row j) s n e f in
    (sound.threads t i).apart (subst (λ a. IsIn a (names_in_use state.rows)) (sym one) (own_name_in_use state.rows row j))

-- a number names one process
pub one_is_named : OneIsNamed
one_is_named state caller n a b sound (i, inl t) (j, inl u) =
    let one : t.0.name ≡ u.0.name = sound.coherent.distinct t.0.name u.0.name (thread_in_use state t.0 t.1.0) (thread_in_use state u.0 u.1.0) caller.name.space n t.1.1 u.1.1 in
    same_row state.rows sound.coherent.rows_rise a b i j
    (sym t.2 ∙ ap (λ (v : Thread). v.process) (same_thread state sound.coherent t.0 u.0 t.1.0 u.1.0 (ap root_number one)) ∙ u.2)
one_is_named state caller n a b sound (i, inl t) (j, inr first) = absurd (apart state sound.coherent t.0 b caller.name.space n t.1.0 j t.1.1 first)
one_is_named state caller n a b sound (i, inr first) (j, inl u) = absurd (apart state sound.coherent u.0 a caller.name.space n u.1.0 i u.1.1 first)
one_is_named state caller n a b sound (i, inr first) (j, inr other) =
    same_row state.rows sound.coherent.rows_rise a b i j
    (sound.coherent.distinct a.name b.name (own_in_use state a i) (own_in_use state b j) caller.name.space n first other)

-- the last thread that leaves ends its process
pub last_leaving_ends : LastLeavingEnds
unfolding step thread_step leave exit
last_leaving_ends state stamp n status caller found last =
    ap (λ o. for_found state o NoCaller (λ row. if running state row == 1 then ends state status row else changed (without_caller state n row) Done)) found
    ∙ ap (λ b. if b then ends state status caller else changed (without_caller state n caller) Done) (eq-eqb (running state caller) 1 last)
    ∙ sym (ap (λ o. for_found state o NoCaller (ends state status)) found)
