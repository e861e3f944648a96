-- Queries are answered from what the caller's namespace sees.
use Rattle.model_laws.proofs.Words.{◌≡◌, ℕ, zero, suc, Bool, true, false, ◌||◌, ◌&&◌, ◌==◌, ◌<◌, ◌≤◌, List, [], ◌∷◌, map, reverse, Option, Some, None, refl, sym, ap, ◌∙◌, subst, arith, inl, inr, nat_lt, nat_le, find, filter, filter_map, is_some, unwrap_or, option_map, slice_index, option_map_or, false_from_ne_true, ne_eqb, and_from, or_cases, or_left, nat_tests, Name, Row, Thread, Kind, Refused, NoTask, Reply, Number, End, least_of, State, number, number_or_zero, numbers_from, root_number, beside, beside_from, is_numbered, caller_of, has_thread, thread_numbered, process_numbered, task_numbered, path_up, in_use, self_or_task, name_by, numbers_by, get_pid, get_tid, get_tgid, get_ppid, get_pgid, get_sid, ns_pid, next, next_thread, sight, seen, is_seen, glimpse_of, thread_glimpse, thread_sight, glimpse_at, thread_glimpse_at, process_seen, self_or_glimpse, number_by, of_glimpse, levels_seen, step, thread_step, IsIn, IsCoherent, fun_ext}
use Rattle.model_laws.proofs.Ground.{IsIn-map, IsIn-from_map, IsIn-filter, IsIn-from_filter, find-Some, find-None, find-none, find-only, number-within, number-on_path, is_numbered-true, own_in_use, used_by_row, thread_in_use, group_in_use, session_in_use, same_row, caller_of-Some, task_at-own, has_thread-true, has_thread-from, option_both}
use Rattle.model_laws.proofs.Lists.{find-same}
use Rattle.model_laws.proofs.Callers.{same_thread, thread_apart}
use Rattle.pid_types.specs.declared.call.Kind.TheVariants.{Task, Group, Session}
use Rattle.model_laws.specs.SightLaws.{Query, IsQuery, own_number, parent_number, group_of, session_of, numbers_of, next_from, SeesSame, QueriesAnswerSeen, SameSightSameAnswers, ThreadQuery, IsThreadQuery, own_thread, process_of, next_thread_from, thread_number, thread_seen, ThreadQueriesAnswerSeen, SameSightSameThreadAnswers}

-- ---- what is seen of things with names

-- a search among what some things look like is one among those things
find-map-filter : {X Y : Type 0} (p : Y → Bool) (f : X → Y) (q : X → Bool) (xs : List X)
    → find p (map f (filter q xs)) ≡ option_map f (find (λ x. q x && p (f x)) xs)
find-map-filter p f q [] = refl
find-map-filter p f q (x ∷ xs) = grind (arith, find-map-filter p f q xs)

-- the first of the numbers from the namespace inwards is the number there
first-beside_from : (s : ℕ) (ts ns : List ℕ) → slice_index (beside_from s ts ns) 0 ≡ unwrap_or (beside s ts ns) 0
first-beside_from s [] ns = refl
first-beside_from s (t ∷ ts) [] = refl
first-beside_from s (t ∷ ts) (n ∷ ns) = grind (arith, first-beside_from s ts ns)

-- the same of a name's numbers
pub first-numbers_from : (state : State) (s : ℕ) (a : Name) → slice_index (numbers_from state.spaces a s) 0 ≡ number_or_zero state.spaces a s
unfolding number numbers_from
first-numbers_from state s a = first-beside_from s (reverse (path_up state.spaces a.space)) a.numbers.items

-- an answer about what is found is one about what is seen of it
about : {X Y : Type 0} {x : Option Y} {one other : Reply} (f : X → Y) (reply : Y → Reply) (o : Option X) → x ≡ option_map f o → one ≡ other
    → option_map_or (λ y. reply (f y)) o one ≡ option_map_or reply x other
about {X} {Y} {x} {one} {other} f reply None e d = d ∙ ap (λ y. option_map_or reply y other) (sym e)
about {X} {Y} {x} {one} {other} f reply (Some y) e d = ap (λ z. option_map_or reply z other) (sym e)

-- what is seen with a number above 0 is what is found under it
abbrev IsOnce : {X : Type 0} → (X → ℕ) → List X → Type 0
IsOnce {X} num xs = (n : ℕ) (x : X) → IsIn x xs → (nat_lt 0 n && (num x == n)) ≡ true → find (λ y. nat_lt 0 n && (num y == n)) xs ≡ Some x

-- how the namespace sees a list of things: their names are in use, all that have a number there are kept, and each is seen with its number
record AreSeen {X Y : Type 0} (state : State) (s : ℕ) (name : X → Name) (kept : X → Bool) (f : X → Y) (num : Y → ℕ) (xs : List X) : Type 0 where
  used : (x : X) → IsIn x xs → IsIn (name x) (in_use state)
  shown : (x : X) (m : ℕ) → number state.spaces (name x) s ≡ Some m → kept x ≡ true
  first : (x : X) → num (f x) ≡ number_or_zero state.spaces (name x) s

module _ (state : State) (sound : IsCoherent state) (s : ℕ) where
  -- no name in use has number 0
  pub above_zero : (a : Name) → IsIn a (in_use state) → (m : ℕ) → number state.spaces a s ≡ Some m → 0 < m
  above_zero a i m e = ((sound.numbered a i).in_range m (number-within state.spaces a s m e).1).0

  module _ {X Y : Type 0} {name : X → Name} {kept : X → Bool} {f : X → Y} {num : Y → ℕ} {xs : List X} (are : AreSeen state s name kept f num xs) where
    -- a thing is seen under the number above 0 that its name has
    tested : (n : ℕ) (x : X) → IsIn x xs → (kept x && (nat_lt 0 n && (num (f x) == n))) ≡ is_numbered state.spaces (name x) s n
    tested n x i = rw (are.first x) (grind (arith, nat_tests, are.shown x, above_zero (name x) (are.used x i)))

    -- what is seen under a number is what is seen of the thing with the number
    seen_under : (n : ℕ)
        → find (λ y. nat_lt 0 n && (num y == n)) (map f (filter kept xs)) ≡ option_map f (find (λ x. is_numbered state.spaces (name x) s n) xs)
    seen_under n = find-map-filter (λ y. nat_lt 0 n && (num y == n)) f kept xs ∙ ap (option_map f) (find-same _ _ xs (tested n))

    -- and of no other, where no two have one name
    seen_once : ((x y : X) → IsIn x xs → IsIn y xs → name x ≡ name y → x ≡ y) → IsOnce num (map f (filter kept xs))
    seen_once one n y i e =
        let q = IsIn-from_map f y (filter kept xs) i in
        let r = IsIn-from_filter kept q.0 xs q.1 in
        let has : is_numbered state.spaces (name q.0) s n ≡ true =
        sym (tested n q.0 r.0) ∙ and_from (kept q.0) _ r.1 (ap (λ z. nat_lt 0 n && (num z == n)) (sym q.2) ∙ e) in
        seen_under n ∙ ap (option_map f) (find-only _ xs q.0 r.0 has (λ x j h. one x q.0 j r.0
        (sound.distinct (name x) (name q.0) (are.used x j) (are.used q.0 r.0) s n
        (is_numbered-true state.spaces (name x) s n h) (is_numbered-true state.spaces (name q.0) s n has)))) ∙ ap Some (sym q.2)

    -- their numbers are those that are seen, but for 0
    seen_numbers : (from : ℕ) (ys : List X) → ((x : X) → IsIn x ys → IsIn x xs)
        → filter (nat_le from) (filter_map (λ x. number state.spaces (name x) s) ys)
        ≡ filter (λ m. nat_lt 0 m && nat_le from m) (map num (map f (filter kept ys)))
    seen_numbers from [] all = refl
    seen_numbers from (x ∷ ys) all =
        let h = seen_numbers from ys (λ y i. all y (inr i)) in
        grind (arith, nat_tests, are.first x, are.shown x, above_zero (name x) (are.used x (all x (inl refl))))

  -- ---- what is seen of processes

  -- what a row is named by is in use
  pub kind_in_use : (kind : Kind) (row : Row) → IsIn row state.rows → IsIn (name_by kind row) (in_use state)
  kind_in_use Task row i = own_in_use state row i
  kind_in_use Group row i = used_by_row state row.group (group_in_use state.rows row i)
  kind_in_use Session row i = used_by_row state row.session (session_in_use state.rows row i)

  -- its number is the one that is seen
  pub kind_number : (kind : Kind) (row : Row) → number_by kind (glimpse_of state s row) ≡ number_or_zero state.spaces (name_by kind row) s
  kind_number Task row = first-numbers_from state s row.name
  kind_number Group row = refl
  kind_number Session row = refl

  -- and where it has one, something is seen of the row
  kind_seen : (kind : Kind) (row : Row) (m : ℕ) → number state.spaces (name_by kind row) s ≡ Some m → is_seen state s row ≡ true
  kind_seen Task row m e = rw e refl
  kind_seen Group row m e = rw e (grind arith)
  kind_seen Session row m e = rw e (grind arith)

  -- so rows are seen by what they are named by
  rows_seen : (kind : Kind) → AreSeen state s (name_by kind) (is_seen state s) (glimpse_of state s) (number_by kind) state.rows
  rows_seen kind = record { used = kind_in_use kind; shown = kind_seen kind; first = kind_number kind }

  -- what is seen under a number is what is seen of the process with the number
  pub glimpse_at-sight : (n : ℕ) → glimpse_at (sight state s) n ≡ option_map (glimpse_of state s) (task_numbered state s n)
  unfolding sight task_numbered
  glimpse_at-sight n = seen_under (rows_seen Task) n

  -- and of no other
  glimpse_once : IsOnce (number_by Task) (sight state s)
  unfolding sight
  glimpse_once = seen_once (rows_seen Task) (same_row state.rows sound.rows_rise)

  -- the numbers in use as the kind are those that are seen so
  next_seen : (kind : Kind) (from : ℕ)
      → filter (nat_le from) (numbers_by state kind s) ≡ filter (λ m. nat_lt 0 m && nat_le from m) (map (number_by kind) (sight state s))
  unfolding sight
  next_seen kind from = seen_numbers (rows_seen kind) from state.rows (λ row i. i)

  -- ---- what is seen of threads

  -- threads are seen by their names
  threads_seen : AreSeen state s (λ t. t.name) (λ t. is_some (number state.spaces t.name s)) (thread_glimpse state s) thread_number state.threads
  threads_seen = record { used = thread_in_use state; shown = λ t m e. ap is_some e; first = λ t. first-numbers_from state s t.name }

  -- what is seen under a number is what is seen of the thread with the number
  thread_at-sight : (n : ℕ) → thread_glimpse_at (thread_sight state s) n ≡ option_map (thread_glimpse state s) (thread_numbered state s n)
  thread_at-sight n = seen_under threads_seen n

  -- and of no other
  thread_once : IsOnce thread_number (thread_sight state s)
  thread_once = seen_once threads_seen (λ t u i j e. same_thread state sound t u i j (ap root_number e))

  -- their numbers are those that are seen
  next_thread_seen : (from : ℕ) → filter (nat_le from) (filter_map (λ t. number state.spaces t.name s) state.threads)
      ≡ filter (λ m. nat_lt 0 m && nat_le from m) (map thread_number (thread_sight state s))
  next_thread_seen from = seen_numbers threads_seen from state.threads (λ t i. i)

  -- ---- the process of a number

  -- the process that the one number names has the other, which is 0 for 0 alone
  abbrev IsProcess : ℕ → ℕ → Type 0
  IsProcess n m = (process_numbered state s n ≡ task_numbered state s m) × (m ≡ 0 → n ≡ 0)

  -- the number of a thread names its process
  of_thread : (n : ℕ) (t : Thread) → thread_numbered state s n ≡ Some t → IsProcess n (number_or_zero state.spaces t.process s)
  unfolding process_numbered
  of_thread n t e =
      let f = find-Some (λ (u : Thread). is_numbered state.spaces u.name s n) state.threads t e in
      let has = is_numbered-true state.spaces t.name s n f.1 in
      let same = λ (a : Name) (i : IsIn a (in_use state)) (h : is_numbered state.spaces a s n ≡ true).
      sound.distinct a t.name i (thread_in_use state t f.0) s n (is_numbered-true state.spaces a s n h) has in
      let p = (sound.threads t f.0).process in
      let used = own_in_use state p.0 p.1 in
      let on = subst (λ x. IsIn s (path_up state.spaces x)) p.4 (number-within state.spaces t.name s n has).0 in
      let own = number-on_path state.spaces p.0.name s (sound.numbered p.0.name used).one_each on in
      let above = above_zero p.0.name used own.0 own.1 in
      rw (← p.2, own.1) (
        find-only (λ (row : Row). has_thread state (λ a. is_numbered state.spaces a s n) row || is_numbered state.spaces row.name s n) state.rows p.0 p.1
            (or_left _ _ (has_thread-from state (λ a. is_numbered state.spaces a s n) p.0 t f.0 f.1 (sym p.2))) (λ row j g.
            same_row state.rows sound.rows_rise row p.0 j p.1 (elim (or_cases _ _ g) [
              | inl h ↦
                  let u = has_thread-true state (λ a. is_numbered state.spaces a s n) row h in
                  let one = same_thread state sound u.0 t u.1 f.0 (ap root_number (same u.0.name (thread_in_use state u.0 u.1) u.2)) in
                  sym u.3 ∙ ap (λ (v : Thread). v.process) one ∙ sym p.2
              | inr h ↦ absurd (thread_apart state sound t row f.0 j (ap root_number (sym (same row.name (own_in_use state row j) h))))
            ])) ∙ sym (task_at-own state sound p.0 p.1 s own.0 own.1),
        λ z. absurd (omega arith),
      )

  -- a number that no other thread has names the process whose own number it is
  of_first : (n : ℕ) → thread_numbered state s n ≡ None → IsProcess n n
  unfolding process_numbered task_numbered
  of_first n e = (
    find-same _ _ state.rows (λ row i. ap (λ b. b || is_numbered state.spaces row.name s n) (false_from_ne_true _ (λ h.
        let u = has_thread-true state (λ a. is_numbered state.spaces a s n) row h in
        let no = find-None (λ (v : Thread). is_numbered state.spaces v.name s n) state.threads e u.0 u.1 in
        let both : false ≡ true = sym no ∙ u.2 in cc))),
    λ z. z,
  )

  -- so a number names the process whose number is seen of it
  process-seen : (n : ℕ) → IsProcess n (process_seen (thread_sight state s) n)
  process-seen n =
      rw (thread_at-sight n) (option_both (thread_numbered state s n)
      (λ o. IsProcess n (option_map_or (λ t. t.process) (option_map (thread_glimpse state s) o) n)) (of_first n) (of_thread n))

module _ (state : State) (sound : IsCoherent state) (root : ℕ) (caller : Row) (n : ℕ) (live : caller_of state root ≡ Some caller)
    (own : number state.spaces caller.name caller.name.space ≡ Some n) where
  -- the caller is one of the rows
  pub there : IsIn caller state.rows
  there = (caller_of-Some state root caller live).0

  -- his namespace
  abbrev s : ℕ
  s = caller.name.space

  -- he is seen under his own number
  pub own_seen : glimpse_at (sight state s) n ≡ Some (glimpse_of state s caller)
  own_seen = glimpse_at-sight state sound s n ∙ ap (option_map (glimpse_of state s)) (task_at-own state sound caller there s n own)

  -- whom a number names, 0 being the caller, is seen so
  pub self_seen : (pid : ℕ)
      → self_or_glimpse (sight state s) n (process_seen (thread_sight state s) pid) ≡ option_map (glimpse_of state s) (self_or_task state caller pid)
  self_seen zero =
      ap (λ o. self_or_glimpse (sight state s) n (option_map_or (λ t. t.process) o 0))
      (find-none (λ t. nat_lt 0 0 && (thread_number t == 0)) (thread_sight state s) (λ t i. refl)) ∙ own_seen
  self_seen (suc pid) =
      let p = process-seen state sound s (suc pid) in
      let to = process_seen (thread_sight state s) (suc pid) in
      rw (ne_eqb to 0 (λ z. let never = p.1 z in omega arith), ne_eqb (suc pid) 0 (λ z. omega arith))
      (glimpse_at-sight state sound s to ∙ ap (option_map (glimpse_of state s)) (sym p.0))

  -- each query is answered from what is seen
  query_seen : (stamp : ℕ) (query : Query) → IsQuery query
      → (step state stamp (query root)).reply ≡ seen (sight state s) (thread_sight state s) n (query root)
  unfolding step seen get_pid get_ppid get_pgid get_sid ns_pid next
  query_seen stamp query own_number = rw live (ap (λ o. Number (unwrap_or o 0)) own)
  query_seen stamp query parent_number = rw live (ap (λ o. of_glimpse o (λ g. Number g.parent)) (sym own_seen))
  query_seen stamp query (group_of pid) = rw live (about (glimpse_of state s) (λ g. Number g.group) (self_or_task state caller pid) (self_seen pid) refl)
  query_seen stamp query (session_of pid) = rw live (about (glimpse_of state s) (λ g. Number g.session) (self_or_task state caller pid) (self_seen pid) refl)
  query_seen stamp query (numbers_of target) =
      rw live (about (thread_glimpse state s) (λ t. levels_seen t.numbers) (thread_numbered state s target) (thread_at-sight state sound s target)
      (about (glimpse_of state s) (λ g. levels_seen g.numbers) (task_numbered state s target) (glimpse_at-sight state sound s target) refl))
  query_seen stamp query (next_from kind from) = rw live (ap (λ ns. option_map_or Number (least_of ns) End) (next_seen state sound s kind from))

-- ---- what is seen as a set

-- the least of a list is in it, and no more than any
least_of-Some : (ns : List ℕ) (m : ℕ) → least_of ns ≡ Some m → IsIn m ns × ((k : ℕ) → IsIn k ns → m ≤ k)
least_of-Some [] m h = absurd (cc)
least_of-Some (n ∷ []) m h = grind arith
least_of-Some (n ∷ k ∷ ns) m h =
    let r = least_of-Some (k ∷ ns) _ refl in
    (grind (arith, nat_tests, r.0), λ j i. grind (arith, nat_tests, r.1 j))

-- lists with the same elements have the same least
least_of-same : (ns ms : List ℕ) → ((k : ℕ) → IsIn k ns → IsIn k ms) → ((k : ℕ) → IsIn k ms → IsIn k ns) → least_of ns ≡ least_of ms
least_of-same [] [] to from = refl
least_of-same [] (m ∷ ms) to from = elim (from m (inl refl)) [ ]
least_of-same (n ∷ ns) [] to from = elim (to n (inl refl)) [ ]
least_of-same (n ∷ ns) (m ∷ ms) to from =
    let x = least_of-Some (n ∷ ns) _ refl in
    let y = least_of-Some (m ∷ ms) _ refl in
    let l = x.1 _ (from _ y.0) in
    let r = y.1 _ (to _ x.0) in
    ap Some (omega arith)

-- lists with the same elements have the same least of those that pass
least_seen-same : {X : Type 0} (num : X → ℕ) (from : ℕ) (a b : List X) → SeesSame a b
    → least_of (filter (λ m. nat_lt 0 m && nat_le from m) (map num a)) ≡ least_of (filter (λ m. nat_lt 0 m && nat_le from m) (map num b))
least_seen-same {X} num from a b same = least_of-same _ _ (move a b (λ g. (same g).0)) (move b a (λ g. (same g).1))
  where
    test : ℕ → Bool
    test m = nat_lt 0 m && nat_le from m

    move : (x y : List X) → ((g : X) → IsIn g x → IsIn g y) → (k : ℕ) → IsIn k (filter test (map num x)) → IsIn k (filter test (map num y))
    move x y to k i =
        let f = IsIn-from_filter test k (map num x) i in
        let g = IsIn-from_map num k x f.0 in
        IsIn-filter test k (map num y) (subst (λ m. IsIn m (map num y)) (sym g.2) (IsIn-map num g.0 y (to g.0 g.1))) f.1

-- the same is seen under a number
found-same : {X : Type 0} (num : X → ℕ) (a b : List X) → SeesSame a b → IsOnce num b → (n : ℕ)
    → find (λ x. nat_lt 0 n && (num x == n)) a ≡ find (λ x. nat_lt 0 n && (num x == n)) b
found-same {X} num a b same once n = go (find p a) refl
  where
    p : X → Bool
    p x = nat_lt 0 n && (num x == n)

    go : (o : Option X) → find p a ≡ o → find p a ≡ find p b
    go None e = e ∙ sym (find-none p b (λ x i. find-None p a e x ((same x).1 i)))
    go (Some x) e = let r = find-Some p a x e in e ∙ sym (once n x ((same x).0 r.0) r.1)

module _ (one other : State) (sound : IsCoherent other) (s t : ℕ) (same : SeesSame (sight one s) (sight other t))
    (alike : SeesSame (thread_sight one s) (thread_sight other t)) where
  -- of a process, and so its number
  glimpse-same : (n : ℕ) → glimpse_at (sight one s) n ≡ glimpse_at (sight other t) n
  glimpse-same n = found-same (number_by Task) (sight one s) (sight other t) same (glimpse_once other sound t) n

  -- of a thread
  thread-same : (n : ℕ) → thread_glimpse_at (thread_sight one s) n ≡ thread_glimpse_at (thread_sight other t) n
  thread-same n = found-same thread_number (thread_sight one s) (thread_sight other t) alike (thread_once other sound t) n

  -- so the answers are the same
  seen-same : (n root elsewhere : ℕ) (query : Query) → IsQuery query
      → seen (sight one s) (thread_sight one s) n (query root) ≡ seen (sight other t) (thread_sight other t) n (query elsewhere)
  unfolding seen
  seen-same n root elsewhere query own_number = refl
  seen-same n root elsewhere query parent_number = rw (glimpse-same n) refl
  seen-same n root elsewhere query (group_of pid) = rw (thread-same pid) (ap (λ o. of_glimpse o (λ g. Number g.group)) (glimpse-same _))
  seen-same n root elsewhere query (session_of pid) = rw (thread-same pid) (ap (λ o. of_glimpse o (λ g. Number g.session)) (glimpse-same _))
  seen-same n root elsewhere query (numbers_of target) = rw (thread-same target, glimpse-same target) refl
  seen-same n root elsewhere query (next_from kind from) =
      ap (λ o. option_map_or Number o End) (least_seen-same (number_by kind) from (sight one s) (sight other t) same)

  -- to the queries about threads too
  thread_seen-same : (n root elsewhere : ℕ) (query : ThreadQuery) → IsThreadQuery query
      → thread_seen (sight one s) (thread_sight one s) n (query root) ≡ thread_seen (sight other t) (thread_sight other t) n (query elsewhere)
  unfolding thread_seen
  thread_seen-same n root elsewhere query own_thread = refl
  thread_seen-same n root elsewhere query (process_of target) =
      rw (thread-same target) (ap (λ o. of_glimpse o (λ g. Number (number_by Task g))) (glimpse-same _))
  thread_seen-same n root elsewhere query (next_thread_from from) =
      ap (λ o. option_map_or Number o End) (least_seen-same thread_number from (thread_sight one s) (thread_sight other t) alike)

-- ---- the laws

-- the same, from the test of soundness
pub queries_answer_seen : QueriesAnswerSeen
queries_answer_seen state stamp root caller n query c q = query_seen state c.sound.coherent root caller n c.live c.own stamp query q

-- so callers that see the same get the same answers
pub same_sight_same_answers : SameSightSameAnswers
same_sight_same_answers one other stamp later root elsewhere n caller like query c d same alike q =
    queries_answer_seen one stamp root caller n query c q
    ∙ seen-same one other d.sound.coherent caller.name.space like.name.space same alike n root elsewhere query q
    ∙ sym (queries_answer_seen other later elsewhere like n query d q)

-- the queries about threads are answered from what is seen
pub thread_queries_answer_seen : ThreadQueriesAnswerSeen
unfolding thread_step thread_seen get_tid get_tgid next_thread
thread_queries_answer_seen state root caller n query c own_thread = let live = c.live in rw live (ap (λ o. Number (unwrap_or o 0)) c.own)
thread_queries_answer_seen state root caller n query c (process_of target) =
    let live = c.live in
    let s = caller.name.space in
    let p = process-seen state c.sound.coherent s target in
    let found = task_numbered state s (process_seen (thread_sight state s) target) in
    rw (live, p.0) (ap (λ h. option_map_or (λ row. Number (h row)) found (Refused NoTask)) (fun_ext (λ row. sym (first-numbers_from state s row.name)))
    ∙ about (glimpse_of state s) (λ g. Number (number_by Task g)) found (glimpse_at-sight state c.sound.coherent s _) refl)
thread_queries_answer_seen state root caller n query c (next_thread_from from) =
    let live = c.live in rw live (ap (λ ns. option_map_or Number (least_of ns) End) (next_thread_seen state c.sound.coherent caller.name.space from))

-- and threads that see the same get the same answers to them
pub same_sight_same_thread_answers : SameSightSameThreadAnswers
same_sight_same_thread_answers one other root elsewhere n caller like query c d same alike q =
    thread_queries_answer_seen one root caller n query c q
    ∙ thread_seen-same one other d.sound.coherent caller.name.space like.name.space same alike n root elsewhere query q
    ∙ sym (thread_queries_answer_seen other elsewhere like n query d q)
