-- Who calls: in a coherent state a root number is a process's or one thread's, so the thread with it is one of the process that calls.
use Rattle.model_laws.proofs.Words.{◌≡◌, ℕ, true, false, not, ◌&&◌, ◌||◌, ◌==◌, Some, None, sym, ap, ◌∙◌, subst, inl, inr, eqb-true, eq-eqb, and_parts, or_cases, not-true, Name, Row, Thread, State, root_number, is_live, is_thread_of, has_left, has_thread, caller_of, thread_at, IsIn, IsCoherent, ◌⊎◌, names_in_use, in_use}
use Rattle.model_laws.proofs.Ground.{find-Some, find-None, unique_key, same_name-true, same_name-refl, own_in_use, own_name_in_use, thread_in_use, has_thread-true, caller_of-Some, list_any-from_one}
use Rattle.model_laws.proofs.Ancestry.{number-root}

-- a thread by which its process is found
pub is_thread_of-true : (process : Name) (t : Thread) → is_thread_of process t ≡ true → t.process ≡ process
is_thread_of-true process t e = same_name-true t.process process e

-- and back
pub is_thread_of-from : (process : Name) (t : Thread) → t.process ≡ process → is_thread_of process t ≡ true
is_thread_of-from process t e = same_name-refl t.process process e

-- a name among the marks, by its root number
pub has_left-from : (state : State) (name : Name) (n : ℕ) → IsIn name state.left → root_number name ≡ n → has_left state n ≡ true
has_left-from state name n i e = list_any-from_one (λ a. root_number a == n) state.left name i (eq-eqb (root_number name) n e)

-- two names in use with one root number are one
pub same_root : (state : State) → IsCoherent state → (a b : Name) → IsIn a (in_use state) → IsIn b (in_use state) → root_number a ≡ root_number b → a ≡ b
same_root state sound a b i j e =
    sound.distinct a b i j 0 (root_number a) (number-root state.spaces state.pid_max a sound.spaces (sound.numbered a i))
    (number-root state.spaces state.pid_max b sound.spaces (sound.numbered b j) ∙ ap Some (sym e))

-- no thread has the root number of a process
pub thread_apart : (state : State) → IsCoherent state → (t : Thread) (row : Row) → IsIn t state.threads → IsIn row state.rows
    → root_number t.name ≡ root_number row.name → ⊥
thread_apart state sound t row i j e =
    let one : t.name ≡ row.name = same_root state sound t.name row.name (thread_in_use state t i) (own_in_use state row j) e in
    (sound.threads t i).apart (subst (λ a. IsIn a (names_in_use state.rows)) (sym one) (own_name_in_use state.rows row j))

-- one thread has the root number
pub same_thread : (state : State) → IsCoherent state → (t u : Thread) → IsIn t state.threads → IsIn u state.threads → root_number t.name ≡ root_number u.name
    → t ≡ u
same_thread state sound t u i j e = unique_key (λ (v : Thread). root_number v.name) state.threads sound.threads_rise t u i j e

-- the thread that is found has the root number
pub thread_at-Some : (state : State) (n : ℕ) (t : Thread) → thread_at state n ≡ Some t → IsIn t state.threads × (root_number t.name ≡ n)
thread_at-Some state n t e =
    let f = find-Some (λ (u : Thread). root_number u.name == n) state.threads t e in (f.0, eqb-true (root_number t.name) n f.1)

-- what is found of who calls: a thread of his has the root number, or he himself, and his first thread has not left
pub caller_is : (state : State) (n : ℕ) (caller : Row) → caller_of state n ≡ Some caller
    → ((t : Thread) × IsIn t state.threads × (root_number t.name ≡ n) × (t.process ≡ caller.name))
    ⊎ ((has_left state n ≡ false) × (root_number caller.name ≡ n))
caller_is state n caller h =
    let f = find-Some (λ (r : Row). (has_thread state (λ name. root_number name == n) r || (not (has_left state n) && (root_number r.name == n))) && is_live r) state.rows caller h in
    let runs = and_parts (has_thread state (λ name. root_number name == n) caller || (not (has_left state n) && (root_number caller.name == n))) (is_live caller) f.1 in
    elim (or_cases (has_thread state (λ name. root_number name == n) caller) (not (has_left state n) && (root_number caller.name == n)) runs.0) [
      | inl e ↦ let t = has_thread-true state (λ name. root_number name == n) caller e in inl (t.0, t.1, eqb-true (root_number t.0.name) n t.2, t.3)
      | inr e ↦
          let own = and_parts (not (has_left state n)) (root_number caller.name == n) e in
          inr (not-true (has_left state n) own.0, eqb-true (root_number caller.name) n own.1)
    ]

-- the thread that calls is one of the process's
pub caller_thread : (state : State) → IsCoherent state → (n : ℕ) (caller : Row) (t : Thread) → caller_of state n ≡ Some caller → thread_at state n ≡ Some t
    → t.process ≡ caller.name
caller_thread state sound n caller t h e =
    let f = thread_at-Some state n t e in
    elim (caller_is state n caller h) [
      | inl u ↦ ap (λ (v : Thread). v.process) (same_thread state sound t u.0 f.0 u.1 (f.1 ∙ sym u.2)) ∙ u.3
      | inr own ↦ absurd (thread_apart state sound t caller f.0 (caller_of-Some state n caller h).0 (f.1 ∙ sym own.1))
    ]

-- where no other thread calls, the first one does, and has not left
pub caller_first : (state : State) (n : ℕ) (caller : Row) → caller_of state n ≡ Some caller → thread_at state n ≡ None
    → (has_left state n ≡ false) × (root_number caller.name ≡ n)
caller_first state n caller h none = elim (caller_is state n caller h) [
  | inl t ↦
      let never : (root_number t.0.name == n) ≡ false = find-None (λ (u : Thread). root_number u.name == n) state.threads none t.0 t.1 in
      let yes : (root_number t.0.name == n) ≡ true = eq-eqb (root_number t.0.name) n t.2 in absurd (cc)
  | inr own ↦ own
]
