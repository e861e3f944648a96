-- Changes by which rows go and change, and namespaces fall.
use Rattle.model_laws.proofs.Words.{◌≡◌, ℕ, ◌<◌, Bool, true, false, List, map, Some, None, refl, sym, ap, ◌∙◌, subst, inl, inr, filter, map-id, Name, Row, Space, Thread, Control, State, space_at, path_up, number, root_number, is_live, names_in_use, in_use, control_at, IsIn, IsRising, HasGoodParents, HasGoodChildrenSpace, HasGoodGroups, HasLiveInit, IsEmptied, HasLiveProcess, IsGoodMark, IsCoherent, IsBelow, ◌⊎◌, not, is_thread_of, same_name, not_from_false, false_from_ne_true, not-true}
use Rattle.model_laws.proofs.Ground.{IsIn-map, IsIn-filter, IsIn-from_filter, filter-all, each_of_map, Uses, user_of_name, IsIn-names_in_use, group_in_use, session_in_use, used_by_row, thread_in_use, in_use_cases, IsRising-filter, roots-map, same_name-true, same_name-refl}
use Rattle.model_laws.proofs.SpaceMaps.{HasGoodParents-map, HasGoodChildrenSpace-map, IsGoodSpace-map, path_up-map, number-map_spaces, IsTreeOfSpaces-map, IsWellNumbered-map, HasGoodParents-kept}
use Rattle.model_laws.proofs.Ancestry.{chain_kept}

-- ---- what is said of a row, and of two

-- what a row names is there: its group and session are in use, its home and the namespace of its children are good ones, of an old id
abbrev pub IsSettled : State → Row → Type 0
IsSettled state r =
    IsIn r.group (names_in_use state.rows) × IsIn r.session (names_in_use state.rows) × HasGoodChildrenSpace state.spaces r
    × ((c : Control) × (control_at state.controls r.home ≡ Some c)) × ((stamp : ℕ) → IsBelow stamp state → r.children_space < stamp)

-- so it is in a coherent state
pub settled : (state : State) → IsCoherent state → (r : Row) → IsIn r state.rows → IsSettled state r
settled state sound r i = (group_in_use state.rows r i, session_in_use state.rows r i, sound.children r i, sound.homes r i, λ stamp below. below.children r i)

-- who is in one group is in one session, and so is the task that the group is named after
abbrev pub IsPair : Row → Row → Type 0
IsPair a b = (a.group ≡ b.group → a.session ≡ b.session) × (a.group ≡ b.name → a.session ≡ b.session)

-- so it is of each two of good groups
pub pairs : (rows : List Row) → HasGoodGroups rows → (a b : Row) → IsIn a rows → IsIn b rows → IsPair a b
pairs rows good a b i j = (good.together a b i j, good.leader a b i j)

-- ---- rows that stay

module _ (state : State) (sound : IsCoherent state) (p : Row → Bool) (g : Row → Row) (names : (r : Row) → (g r).name ≡ r.name) where
  -- the rows that stay, perhaps changed
  abbrev pub survivors : List Row
  survivors = map g (filter p state.rows)

  -- a row that stays is among them
  pub survives : (x : Row) → IsIn x state.rows → p x ≡ true → IsIn (g x) survivors
  survives x i e = IsIn-map g x (filter p state.rows) (IsIn-filter p x state.rows i e)

  -- what holds of each row that stays holds of each of them
  each : (P : Row → Type 0) → ((x : Row) → IsIn x state.rows → p x ≡ true → P (g x)) → (r : Row) → IsIn r survivors → P r
  each P all = each_of_map P g (filter p state.rows) (λ x i. let f = IsIn-from_filter p x state.rows i in all x f.0 f.1)

  -- they rise
  survivors_rise : IsRising (map (λ r. root_number r.name) survivors)
  survivors_rise =
      subst IsRising (sym (roots-map g names (filter p state.rows))) (IsRising-filter (λ (r : Row). root_number r.name) p state.rows sound.rows_rise)

  -- their parents stay good where these stay and live on
  pub parents_stay : ((r : Row) → (g r).parent ≡ r.parent)
      → ((r q : Row) → IsIn r state.rows → IsIn q state.rows → p r ≡ true → r.parent ≡ Some q.name → is_live q ≡ true → (p q ≡ true) × (is_live (g q) ≡ true))
      → (x : Row) → IsIn x state.rows → p x ≡ true → HasGoodParents survivors state.spaces (g x)
  parents_stay ups stay x i e = HasGoodParents-kept state.rows survivors state.spaces state.spaces x (g x) (names x) (ups x) refl
      (λ q j up live. let s = stay x q i j e up live in (g q, survives q j s.0, names q, s.1))
      (chain_kept state sound survivors survivors_rise g (λ r. p r ≡ true) (λ r j s. (survives r j s, names r, ups r))
      (λ r q j k s up live. (stay r q j k s up live).0) x i e) (sound.parents x i)

-- a thread goes on: it has the name of one from before and a live process, and its children's namespace, of an old id, and its home are
-- good ones
pub record IsKeptThread (state : State) (after : List Row) (t : Thread) : Type 0 where
  pub before : (u : Thread) × IsIn u state.threads × (t.name ≡ u.name)
  pub process : HasLiveProcess after t
  pub children : (space_at state.spaces t.children_space ≡ None) ⊎ IsIn t.name.space (path_up state.spaces t.children_space)
  pub home : (c : Control) × (control_at state.controls t.home ≡ Some c)
  pub below : (stamp : ℕ) → IsBelow stamp state → t.children_space < stamp

-- threads that go on, and the processes whose first thread has left
pub record KeepsThreads (state : State) (after : List Row) (threads : List Thread) (left : List Name) : Type 0 where
  pub each : (t : Thread) → IsIn t threads → IsKeptThread state after t
  pub rise : IsRising (map (λ t. root_number t.name) threads)
  pub marks : (name : Name) → IsIn name left → IsGoodMark after threads name
  pub marks_rise : IsRising (map root_number left)

-- a process whose first thread has left goes on with its threads
abbrev pub StaysLeft : State → (Row → Bool) → (Row → Row) → List Thread → Name → Type 0
StaysLeft state p g threads name =
    IsIn name state.left × ((r : Row) → IsIn r state.rows → r.name ≡ name → is_live r ≡ true → (p r ≡ true) × (is_live (g r) ≡ true))
    × ((t : Thread) → IsIn t state.threads → t.process ≡ name → IsIn t threads)

-- some of the threads go on as they are, where their processes stay and live on
pub threads_stay : (state : State) → IsCoherent state → (p : Row → Bool) (g : Row → Row) → ((r : Row) → (g r).name ≡ r.name)
    → (threads : List Thread) (left : List Name)
    → IsRising (map (λ t. root_number t.name) threads) → ((t : Thread) → IsIn t threads → IsIn t state.threads)
    → ((t : Thread) (r : Row) → IsIn t threads → IsIn r state.rows → r.name ≡ t.process → is_live r ≡ true → (p r ≡ true) × (is_live (g r) ≡ true))
    → IsRising (map root_number left) → ((name : Name) → IsIn name left → StaysLeft state p g threads name)
    → KeepsThreads state (map g (filter p state.rows)) threads left
threads_stay state sound p g names threads left rise old stay left_rise marks = record {
  each = λ t i.
      let good = sound.threads t (old t i) in
      let r = good.process in
      let s = stay t r.0 i r.1 r.2 r.3 in
      record {
        before = (t, old t i, refl);
        process = (
          g r.0,
          IsIn-map g r.0 (filter p state.rows) (IsIn-filter p r.0 state.rows r.1 s.0),
          names r.0 ∙ r.2,
          s.1,
          r.4 ∙ ap (λ (a : Name). a.space) (sym (names r.0)),
        );
        children = good.children;
        home = good.home;
        below = λ stamp below. below.thread_children t (old t i);
      };
  rise = rise;
  marks = λ name i.
      let m = marks name i in
      let good = sound.left name m.0 in
      let r = good.0 in
      let s = m.1 r.0 r.1 r.2 r.3 in (
        (g r.0, IsIn-map g r.0 (filter p state.rows) (IsIn-filter p r.0 state.rows r.1 s.0), names r.0 ∙ r.2, s.1),
        (good.1.0, m.2 good.1.0 good.1.1 good.1.2, good.1.2),
      );
  marks_rise = left_rise;
}

-- all of them go on where all processes stay and live on
pub threads_go_on : (state : State) → IsCoherent state → (p : Row → Bool) (g : Row → Row) → ((r : Row) → (g r).name ≡ r.name)
    → ((r : Row) → is_live r ≡ true → (p r ≡ true) × (is_live (g r) ≡ true)) → KeepsThreads state (map g (filter p state.rows)) state.threads state.left
threads_go_on state sound p g names stay =
    threads_stay state sound p g names state.threads state.left sound.threads_rise (λ t i. i) (λ t r i j e live. stay r live) sound.left_rise
    (λ name i. (i, λ r j e live. stay r live, λ t j e. j))

-- all of them stay
abbrev pub all_stay : Row → Bool
all_stay r = true

-- the threads and the marks of the other processes go on where these live on
pub others_go_on : (state : State) → IsCoherent state → (process : Name) (g : Row → Row) → ((r : Row) → (g r).name ≡ r.name)
    → ((r : Row) → (r.name ≡ process → ⊥) → is_live r ≡ true → is_live (g r) ≡ true)
    → KeepsThreads state (map g (filter all_stay state.rows)) (filter (λ t. not (is_thread_of process t)) state.threads)
    (filter (λ name. not (same_name name process)) state.left)
others_go_on state sound process g names lives =
    threads_stay state sound all_stay g names (filter goes state.threads) (filter keeps state.left)
    (IsRising-filter (λ (t : Thread). root_number t.name) goes state.threads sound.threads_rise)
    (λ t i. (IsIn-from_filter goes t state.threads i).0)
    (λ t r i j e live. (refl, lives r (λ own. apart t.process (IsIn-from_filter goes t state.threads i).1 (sym e ∙ own)) live))
    (IsRising-filter root_number keeps state.left sound.left_rise)
    (λ name i.
    let f = IsIn-from_filter keeps name state.left i in (
      f.0,
      λ r j e live. (refl, lives r (λ own. apart name f.1 (sym e ∙ own)) live),
      λ t j e. IsIn-filter goes t state.threads j (not_from_false (is_thread_of process t) (false_from_ne_true (is_thread_of process t) (λ own.
          apart name f.1 (sym e ∙ same_name-true t.process process own)))),
    ))
  where
    goes : Thread → Bool
    goes t = not (is_thread_of process t)

    keeps : Name → Bool
    keeps name = not (same_name name process)

    apart : (name : Name) → not (same_name name process) ≡ true → name ≡ process → ⊥
    apart name e own =
        let yes : same_name name process ≡ true = same_name-refl name process own in
        let no : same_name name process ≡ false = not-true (same_name name process) e in
        cc

-- what a change has to keep: p says which rows stay, g changes rows, h lets namespaces fall, and these threads go on
pub record KeepsRest (state : State) (p : Row → Bool) (g : Row → Row) (h : Space → Space) (threads : List Thread) (left : List Name) : Type 0 where
  pub names : (r : Row) → (g r).name ≡ r.name
  pub rows : (r : Row) → IsIn r state.rows → IsSettled state (g r)
  pub groups : (a b : Row) → IsIn a state.rows → IsIn b state.rows → IsPair (g a) (g b)
  pub parents : (r : Row) → IsIn r state.rows → p r ≡ true → HasGoodParents (map g (filter p state.rows)) state.spaces (g r)
  pub spaces : (s : Space) → ((h s).id ≡ s.id) × ((h s).parent ≡ s.parent)
  pub standing : (s : Space) → IsIn s state.spaces → (h s).fallen ≡ false
      → (s.fallen ≡ false) × ((r : Row) → IsIn r state.rows → is_live r ≡ true → r.name.space ≡ s.id → number state.spaces r.name s.id ≡
      Some 1 → (p r ≡ true) × (is_live (g r) ≡ true))
  pub fallen : (s : Space) → IsIn s state.spaces → (h s).fallen ≡ true
      → ((r : Row) → IsIn r state.rows → p r ≡ true → is_live (g r) ≡ true → number state.spaces r.name s.id ≡ None)
      × ((t : Space) → IsIn t state.spaces → IsIn s.id (path_up state.spaces t.id) → (h t).fallen ≡ true)
  pub root : (s : Space) → IsIn s state.spaces → s.id ≡ 0 → (h s).fallen ≡ false
  pub go_on : KeepsThreads state (map g (filter p state.rows)) threads left

-- what a change leaves: a coherent state, with ids below each stamp that they were below
abbrev pub Leaves : State → State → Type 0
Leaves state next = IsCoherent next × ((stamp : ℕ) → IsBelow stamp state → IsBelow stamp next)

module _ (state : State) (p : Row → Bool) (g : Row → Row) (h : Space → Space) (threads : List Thread) (left : List Name) (sound : IsCoherent state)
    (keeps : KeepsRest state p g h threads left) where
  -- the rows after
  abbrev after : List Row
  after = map g (filter p state.rows)

  -- namespaces keep their ids
  abbrev ids : (s : Space) → (h s).id ≡ s.id
  ids s = (keeps.spaces s).0

  -- and their parents
  abbrev tops : (s : Space) → (h s).parent ≡ s.parent
  tops s = (keeps.spaces s).1

  -- the namespaces, perhaps fallen
  abbrev spaces_after : List Space
  spaces_after = map h state.spaces

  -- what holds of each row that stays
  rest : (P : Row → Type 0) → ((x : Row) → IsIn x state.rows → p x ≡ true → P (g x)) → (r : Row) → IsIn r after → P r
  rest = each state sound p g keeps.names

  -- names that rows use were used by rows
  used_before : (a : Name) → IsIn a (names_in_use after) → IsIn a (names_in_use state.rows)
  used_before a i = let u = user_of_name after a i in rest (λ r. Uses r a → IsIn a (names_in_use state.rows)) used u.0 u.1 u.2
    where
      used : (x : Row) → IsIn x state.rows → p x ≡ true → Uses (g x) a → IsIn a (names_in_use state.rows)
      used x j e (inl same) = IsIn-names_in_use state.rows x a j (inl (same ∙ keeps.names x))
      used x j e (inr (inl same)) = rw same (keeps.rows x j).0
      used x j e (inr (inr (inl same))) = rw same (keeps.rows x j).1
      used x j e (inr (inr (inr none))) = elim none [ ]

  -- the state after
  abbrev next : State
  next = record state { rows = after; threads = threads; left = left; spaces = spaces_after }

  -- names that are in use were in use
  in_use_before : (a : Name) → IsIn a (in_use next) → IsIn a (in_use state)
  in_use_before a i = elim (in_use_cases next a i) [
    | inl j ↦ used_by_row state a (used_before a j)
    | inr t ↦
        let b = (keeps.go_on.each t.0 t.1).before in
        subst (λ x. IsIn x (in_use state)) (sym (t.2 ∙ b.2)) (thread_in_use state b.0 b.1)
  ]

  -- numbers stay
  number_after : (a : Name) (s : ℕ) → number spaces_after a s ≡ number state.spaces a s
  number_after a s = number-map_spaces state.spaces h ids tops a s

  -- each two rows are a pair
  pairs_after : (a b : Row) → IsIn a after → IsIn b after → IsPair a b
  pairs_after a b i j = rest (λ x. IsPair x b) (λ x k e. rest (IsPair (g x)) (λ y l f. keeps.groups x y k l) b j) a i

  -- a namespace that stands has its live init
  standing_after : (s : Space) → IsIn s state.spaces → (h s).fallen ≡ false → HasLiveInit after spaces_after (h s).id
  standing_after s i e =
      let k = keeps.standing s i e in
      let r = sound.standing s i k.0 in
      let stays = k.1 r.0 r.1 r.2 r.3 r.4 in
      subst (HasLiveInit after spaces_after) (sym (ids s)) (
        g r.0,
        survives state sound p g keeps.names r.0 r.1 stays.0,
        stays.1,
        ap (λ (a : Name). a.space) (keeps.names r.0) ∙ r.3,
        ap (λ a. number spaces_after a s.id) (keeps.names r.0) ∙ number_after r.0.name s.id ∙ r.4,
      )

  -- a fallen one has no live task
  fallen_after : (s : Space) → IsIn s state.spaces → (h s).fallen ≡ true → IsEmptied after spaces_after (h s).id
  fallen_after s i e =
      let k = keeps.fallen s i e in
      subst (IsEmptied after spaces_after) (sym (ids s)) (record {
        ended = rest (λ r. is_live r ≡ true → number spaces_after r.name s.id ≡ None) (λ x j f live.
            ap (λ a. number spaces_after a s.id) (keeps.names x) ∙ number_after x.name s.id ∙ k.0 x j f live);
        below = each_of_map (λ t. IsIn s.id (path_up spaces_after t.id) → t.fallen ≡ true) h state.spaces (λ t j m.
            k.1 t j (subst (IsIn s.id) (path_up-map state.spaces h ids tops t.id) (subst (λ x. IsIn s.id (path_up spaces_after x)) (ids t) m)));
      })

  -- a change that keeps so much leaves a coherent state
  pub leaves : (rows : List Row) (spaces : List Space) → after ≡ rows → spaces_after ≡ spaces
      → Leaves state (record state { rows = rows; threads = threads; left = left; spaces = spaces })
  leaves rows spaces e f = subst (Leaves state) (λ i. record state { rows = e i; threads = threads; left = left; spaces = f i }) (
    record {
      distinct =
          λ a b i j s n x y. sound.distinct a b (in_use_before a i) (in_use_before b j) s n (sym (number_after a s) ∙ x) (sym (number_after b s) ∙ y);
      numbered = λ a i. IsWellNumbered-map state.spaces h ids tops state.pid_max a (sound.numbered a (in_use_before a i));
      parents = rest (HasGoodParents after spaces_after) (λ x i e. HasGoodParents-map state.spaces h ids tops after (g x) (keeps.parents x i e));
      children = rest (HasGoodChildrenSpace spaces_after) (λ x i e. HasGoodChildrenSpace-map state.spaces h ids tops (g x) (keeps.rows x i).2);
      root = each_of_map (λ s. s.id ≡ 0 → s.fallen ≡ false) h state.spaces (λ s i z. keeps.root s i (sym (ids s) ∙ z));
      standing = each_of_map (λ s. s.fallen ≡ false → HasLiveInit after spaces_after s.id) h state.spaces standing_after;
      fallen = each_of_map (λ s. s.fallen ≡ true → IsEmptied after spaces_after s.id) h state.spaces fallen_after;
      groups = record { together = λ a b i j. (pairs_after a b i j).0; leader = λ a b i j. (pairs_after a b i j).1 };
      rows_rise = survivors_rise state sound p g keeps.names;
      spaces = IsTreeOfSpaces-map state.spaces h ids tops sound.spaces;
      controls = sound.controls;
      limits = sound.limits;
      homes = rest (λ r. (c : Control) × (control_at state.controls r.home ≡ Some c)) (λ x i e. (keeps.rows x i).3);
      threads = λ t i.
          let k = keeps.go_on.each t i in
          record {
            process = k.process;
            apart = λ used.
                (sound.threads k.before.0 k.before.1).apart (subst (λ x. IsIn x (names_in_use state.rows)) k.before.2 (used_before t.name used));
            children = IsGoodSpace-map state.spaces h ids tops t.name.space t.children_space k.children;
            home = k.home;
          };
      threads_rise = keeps.go_on.rise;
      left = keeps.go_on.marks;
      left_rise = keeps.go_on.marks_rise;
    },
    λ stamp below. record {
      spaces = each_of_map (λ s. s.id < stamp) h state.spaces (λ s i. rw (ids s) (below.spaces s i));
      controls = below.controls;
      children = rest (λ r. r.children_space < stamp) (λ x i e. (keeps.rows x i).4 stamp below);
      thread_children = λ t i. (keeps.go_on.each t i).below stamp below;
    },
  )

-- ---- changes of rows by which none goes, and of namespaces by which none falls

-- all of them are there
pub all_there : (g : Row → Row) (rows : List Row) → map g (filter all_stay rows) ≡ map g rows
all_there g rows = ap (map g) (filter-all all_stay rows (λ r j. refl))

-- a change of rows that keeps names, parents and lives, while these threads go on
pub map_leaves : (state : State) (f : Row → Row) (threads : List Thread) (left : List Name) → IsCoherent state
    → ((r : Row) → ((f r).name ≡ r.name) × ((f r).parent ≡ r.parent) × (is_live (f r) ≡ is_live r))
    → ((r : Row) → IsIn r state.rows → IsSettled state (f r)) → ((a b : Row) → IsIn a state.rows → IsIn b state.rows → IsPair (f a) (f b))
    → KeepsThreads state (map f state.rows) threads left → Leaves state (record state { rows = map f state.rows; threads = threads; left = left })
map_leaves state f threads left sound same rows groups on = leaves state all_stay f (λ s. s) threads left sound (record {
  names = λ r. (same r).0;
  rows = rows;
  groups = groups;
  parents = parents_stay state sound all_stay f (λ r. (same r).0) (λ r. (same r).1) (λ r q i j stays up live. (refl, (same q).2 ∙ live));
  spaces = λ s. (refl, refl);
  standing = λ s i e. (e, λ r j live here one. (refl, (same r).2 ∙ live));
  fallen = λ s i e. let em = sound.fallen s i e in (λ r j stays live. em.ended r j (sym (same r).2 ∙ live), em.below);
  root = sound.root;
  go_on = subst (λ l. KeepsThreads state l threads left) (sym (all_there f state.rows)) on;
}) _ _ (all_there f state.rows) (map-id state.spaces)

-- the threads go on as they are where rows keep names and lives
pub all_go_on : (state : State) (f : Row → Row) → IsCoherent state → ((r : Row) → (f r).name ≡ r.name) → ((r : Row) → is_live (f r) ≡ is_live r)
    → KeepsThreads state (map f state.rows) state.threads state.left
all_go_on state f sound names lives =
    subst (λ l. KeepsThreads state l state.threads state.left) (all_there f state.rows)
    (threads_go_on state sound all_stay f names (λ r live. (refl, lives r ∙ live)))

-- the row is the other one, but for what a call sets of one task
abbrev pub IsOwn : Row → Row → Type 0
IsOwn r x =
    x ≡ record r { executed = x.executed; home = x.home; children_space = x.children_space; subreaper = x.subreaper }

-- a change of such rows, while these threads go on
pub own_leaves_with : (state : State) (f : Row → Row) (threads : List Thread) (left : List Name) → IsCoherent state → ((r : Row) → IsOwn r (f r))
    → ((r : Row) → IsIn r state.rows → IsSettled state (f r)) → KeepsThreads state (map f state.rows) threads left
    → Leaves state (record state { rows = map f state.rows; threads = threads; left = left })
own_leaves_with state f threads left sound own rows on =
    map_leaves state f threads left sound (λ r. (ap (λ (x : Row). x.name) (own r), ap (λ (x : Row). x.parent) (own r), ap is_live (own r))) rows
    (λ a b i j. subst (λ x. IsPair x (f b)) (sym (own a)) (subst (IsPair a) (sym (own b)) (pairs state.rows sound.groups a b i j))) on

-- the same where all threads do
pub own_leaves : (state : State) (f : Row → Row) → IsCoherent state → ((r : Row) → IsOwn r (f r))
    → ((r : Row) → IsIn r state.rows → IsSettled state (f r)) → Leaves state (record state { rows = map f state.rows })
own_leaves state f sound own rows =
    own_leaves_with state f state.threads state.left sound own rows
    (all_go_on state f sound (λ r. ap (λ (x : Row). x.name) (own r)) (λ r. ap is_live (own r)))

-- a change of namespaces that keeps their ids and parents, and which have fallen
pub spaces_leave : (state : State) (h : Space → Space) → ((s : Space) → ((h s).id ≡ s.id) × ((h s).parent ≡ s.parent) × ((h s).fallen ≡ s.fallen))
    → IsCoherent state → Leaves state (record state { spaces = map h state.spaces })
spaces_leave state h same sound = leaves state all_stay (λ r. r) h state.threads state.left sound (record {
  names = λ r. refl;
  rows = settled state sound;
  groups = pairs state.rows sound.groups;
  parents = parents_stay state sound all_stay (λ r. r) (λ r. refl) (λ r. refl) (λ r q i j stays up live. (refl, live));
  spaces = λ s. ((same s).0, (same s).1);
  standing = λ s i e. (sym (same s).2 ∙ e, λ r j live here one. (refl, live));
  fallen = λ s i e. let em = sound.fallen s i (sym (same s).2 ∙ e) in (λ r j stays live. em.ended r j live, λ t j k. (same t).2 ∙ em.below t j k);
  root = λ s i z. (same s).2 ∙ sound.root s i z;
  go_on = threads_go_on state sound all_stay (λ r. r) (λ r. refl) (λ r live. (refl, live));
}) _ _ (all_there (λ r. r) state.rows ∙ map-id state.rows) refl
