-- A page is answered from what the caller's namespace sees.
use Rattle.std.proofs.Common.{◌≡◌, ℕ, ◌<◌, ◌+◌, ◌==◌, Bool, true, false, nat_lt, List, [], length, map, filter, Option, Some, None, if◌then◌else◌, option_map, unwrap_or, refl, sym, ap, subst, ◌∙◌, arith}
use Rattle.std.specs.Option.{option_map_or, option_eq}
use Rattle.std.proofs.lemmas.Bool.{eq-eqb, eqb-true, ne_eqb}
use Rattle.pid_types.proofs.General.{some_number, number_tested}
use Rattle.pid_types.specs.declared.call.Kind.{Kind}
use Rattle.pid_types.specs.declared.call.Kind.TheVariants.{Task, Group, Session}
use Rattle.pid_types.specs.declared.plain.Name.{Name}
use Rattle.pid_types.specs.declared.plain.Row.{Row}
use Rattle.pid_types.specs.declared.reply.Reply.{Reply}
use Rattle.pid_types.specs.Membership.{IsIn}
use Rattle.pid_types.specs.Names.{number, number_or_zero, numbers_from, is_numbered, same_name, names_in_use, task_numbered}
use Rattle.pid_types.specs.Threads.{caller_of, process_numbered}
use Rattle.pid_types.specs.Queries.{name_by, self_or_task}
use Rattle.pid_types.specs.Sight.{Glimpse, sight, is_seen, glimpse_of, glimpse_at, number_by, self_or_glimpse}
use Rattle.pid_types.specs.Sound.{IsCoherent}
use Rattle.pid_types.specs.State.{State}
use Rattle.model_laws.proofs.Lists.{find-Some, IsIn-map, IsIn-from_map, IsIn-filter, IsIn-from_filter, IsIn-filter_map, IsIn-from_filter_map}
use Rattle.model_laws.proofs.Names.{number-within, own_in_use, own_name_in_use, used_by_row, group_in_use, session_in_use, same_name-true, same_name-refl}
use Rattle.model_laws.proofs.Glimpses.{first-numbers_from, glimpse_at-sight, own_seen, there, above_zero, kind_in_use, kind_number}
use Rattle.task_table.proofs.Alone.{caller-live, process-task}
use Rattle.translate.specs.declared.members.Reach.{Reach}
use Rattle.translate.specs.declared.page.Page.{Page}
use Rattle.translate.specs.declared.page.Whom.{Whom}
use Rattle.translate.specs.declared.page.Whom.TheVariants.{Belonging, Namespace}
use Rattle.translate.specs.Members.{visible_numbers, members_seen}
use Rattle.translate.specs.Pages.{belongs_to, is_meant, belongs, numbers_belonging, numbers_asked, AreLeastFrom, TellsPage, owner_seen, numbers_seen, numbers_seen_by, IsInSight, TellsSeenPage}
use Rattle.translate.proofs.LeastFrom.{same_least}
use Rattle.translate.proofs.SeenMembers.{alone, members_listed, seen_with, has_seen}

-- what has the number above 0 is seen with it
tested : (o : Option ℕ) (n : ℕ) → 0 < n → option_eq ◌==◌ o (Some n) ≡ (unwrap_or o 0 == n)
tested None n h = sym (ne_eqb 0 n (λ e. omega (arith, e, h)))
tested (Some m) n h = refl

-- in a state without threads
module _ (state : State) (sound : IsCoherent state) (root : ℕ) (caller : Row) (own : ℕ) (live : caller_of state root ≡ Some caller)
    (is_own : number state.spaces caller.name caller.name.space ≡ Some own) (threads : state.threads ≡ []) where
  abbrev s : ℕ
  s = caller.name.space

  -- what a task belongs to is seen so
  owner-is : (kind : Kind) (row : Row) → owner_seen kind (glimpse_of state s row) ≡ option_map_or (λ name. number_or_zero state.spaces name s) (belongs_to kind row) 0
  owner-is Task row = refl
  owner-is Group row = refl
  owner-is Session row = refl

  module _ (kind : Kind) (n : ℕ) where
    abbrev page_number : ℕ
    page_number = if n == 0 then option_map_or (number_by kind) (glimpse_at (sight state s) own) 0 else n

    -- the number that is meant for 0 is that of its own
    own_number : option_map_or (number_by kind) (glimpse_at (sight state s) own) 0 ≡ number_or_zero state.spaces (name_by kind caller) s
    own_number =
        ap (λ o. option_map_or (number_by kind) o 0) (own_seen state sound root caller own live is_own) ∙ kind_number state sound s kind caller

    -- what a task belongs to has a name in use
    owner_in_use : (row : Row) → IsIn row state.rows → (name : Name) → belongs_to kind row ≡ Some name → IsIn name (names_in_use state.rows)
    owner_in_use row i name e = go kind e
      where
        go : (kind : Kind) → belongs_to kind row ≡ Some name → IsIn name (names_in_use state.rows)
        go Task e = let r = ((sound.parents row i).good name e).lives in subst (λ a. IsIn a (names_in_use state.rows)) r.2 (own_name_in_use state.rows r.0 r.1)
        go Group e = let same : row.group ≡ name = cc in subst (λ a. IsIn a (names_in_use state.rows)) same (group_in_use state.rows row i)
        go Session e = let same : row.session ≡ name = cc in subst (λ a. IsIn a (names_in_use state.rows)) same (session_in_use state.rows row i)

    module _ (h : 0 < page_number) where
      -- what is meant is what has that number
      meant-is : (row : Row) → IsIn row state.rows → (name : Name) → belongs_to kind row ≡ Some name → is_meant state caller kind n name ≡ is_numbered state.spaces name s page_number
      meant-is row i name e = go (n == 0) refl h
        where
          mine : 0 < number_or_zero state.spaces (name_by kind caller) s → same_name name (name_by kind caller) ≡ is_numbered state.spaces name s (number_or_zero state.spaces (name_by kind caller) s)
          mine above = read (number state.spaces (name_by kind caller) s) refl above
            where
              read : (o : Option ℕ) → number state.spaces (name_by kind caller) s ≡ o → 0 < unwrap_or o 0
                  → same_name name (name_by kind caller) ≡ option_eq ◌==◌ (number state.spaces name s) (Some (unwrap_or o 0))
              read None is above = absurd (omega (arith, above))
              read (Some x) is above = test (same_name name (name_by kind caller)) refl
                where
                  test : (b : Bool) → same_name name (name_by kind caller) ≡ b → b ≡ option_eq ◌==◌ (number state.spaces name s) (Some x)
                  test true same = sym (number_tested (number state.spaces name s) x (ap (λ a. number state.spaces a s) (same_name-true name (name_by kind caller) same) ∙ is))
                  test false differs = sym (no (option_eq ◌==◌ (number state.spaces name s) (Some x)) refl)
                    where
                      no : (b : Bool) → option_eq ◌==◌ (number state.spaces name s) (Some x) ≡ b → b ≡ false
                      no false is = refl
                      no true has =
                          let one = sound.distinct name (name_by kind caller) (used_by_row state name (owner_in_use row i name e))
                          (kind_in_use state sound s kind caller (there state sound root caller own live is_own)) s x
                          (some_number (number state.spaces name s) x has) is in
                          let z : true ≡ false = sym (same_name-refl name (name_by kind caller) one) ∙ differs in
                          absurd (cc)

          go : (b : Bool) → (n == 0) ≡ b → 0 < (if b then option_map_or (number_by kind) (glimpse_at (sight state s) own) 0 else n)
              → (if b then same_name name (name_by kind caller) else is_numbered state.spaces name s n)
              ≡ is_numbered state.spaces name s (if b then option_map_or (number_by kind) (glimpse_at (sight state s) own) 0 else n)
          go true is above = rw own_number (mine (rw own_number at above))
          go false is above = refl

      belongs-is : (row : Row) → IsIn row state.rows → belongs state caller kind n row ≡ (owner_seen kind (glimpse_of state s row) == page_number)
      belongs-is row i = go (belongs_to kind row) refl ∙ ap (λ m. m == page_number) (sym (owner-is kind row))
        where
          go : (o : Option Name) → belongs_to kind row ≡ o → option_map_or (is_meant state caller kind n) o false ≡ (option_map_or (λ name. number_or_zero state.spaces name s) o 0 == page_number)
          go None is = sym (ne_eqb 0 page_number (λ e. omega (arith, e, h)))
          go (Some name) is = meant-is row i name is ∙ tested (number state.spaces name s) page_number h

      -- the numbers are those that are seen
      to_seen : (m : ℕ) → IsIn m (numbers_belonging state caller kind n) → IsIn m (numbers_seen (sight state s) kind page_number)
      unfolding sight
      to_seen m on =
          let f = IsIn-from_filter_map (λ row. number state.spaces row.name s) m (filter (belongs state caller kind n) state.rows) on in
          let g = IsIn-from_filter (belongs state caller kind n) f.0 state.rows f.1 in
          let row = f.0 in
          let above = above_zero state sound s row.name (own_in_use state row g.0) m f.2 in
          let there : is_seen state s row ≡ true = rw f.2 refl in
          let first = first-numbers_from state s row.name ∙ seen_with (number state.spaces row.name s) m f.2 in
          IsIn-filter (nat_lt 0) m (map (number_by Task) (filter (λ k. owner_seen kind k == page_number) (sight state s)))
          (subst (λ x. IsIn x (map (number_by Task) (filter (λ k. owner_seen kind k == page_number) (sight state s)))) first
          (IsIn-map (number_by Task) (glimpse_of state s row) (filter (λ k. owner_seen kind k == page_number) (sight state s))
          (IsIn-filter (λ k. owner_seen kind k == page_number) (glimpse_of state s row) (sight state s)
          (IsIn-map (glimpse_of state s) row (filter (is_seen state s) state.rows) (IsIn-filter (is_seen state s) row state.rows g.0 there)) (sym (belongs-is row g.0) ∙ g.1))))
          (grind (arith, above))

      of_seen : (m : ℕ) → IsIn m (numbers_seen (sight state s) kind page_number) → IsIn m (numbers_belonging state caller kind n)
      unfolding sight
      of_seen m on =
          let f = IsIn-from_filter (nat_lt 0) m (map (number_by Task) (filter (λ k. owner_seen kind k == page_number) (sight state s))) on in
          let g = IsIn-from_map (number_by Task) m (filter (λ k. owner_seen kind k == page_number) (sight state s)) f.0 in
          let q = IsIn-from_filter (λ k. owner_seen kind k == page_number) g.0 (sight state s) g.1 in
          let r = IsIn-from_map (glimpse_of state s) g.0 (filter (is_seen state s) state.rows) q.0 in
          let row = r.0 in
          let among = (IsIn-from_filter (is_seen state s) row state.rows r.1).0 in
          let above : 0 < m = grind (arith, f.1) in
          let has = has_seen (number state.spaces row.name s) m above (sym (first-numbers_from state s row.name) ∙ ap (number_by Task) (sym r.2) ∙ sym g.2) in
          IsIn-filter_map (λ x. number state.spaces x.name s) row m (filter (belongs state caller kind n) state.rows)
          (IsIn-filter (belongs state caller kind n) row state.rows among (belongs-is row among ∙ ap (λ k. owner_seen kind k == page_number) (sym r.2) ∙ q.1))
          has

      pub listed_seen : (from most : ℕ) (listed : List ℕ) → AreLeastFrom (numbers_belonging state caller kind n) from most listed
          → AreLeastFrom (numbers_seen (sight state s) kind page_number) from most listed
      listed_seen from most listed = same_least (numbers_belonging state caller kind n) (numbers_seen (sight state s) kind page_number) from most listed to_seen of_seen

  -- whom a page names, as it is seen
  self_seen : (n : ℕ) → self_or_glimpse (sight state s) own n ≡ option_map (glimpse_of state s) (self_or_task state caller n)
  self_seen n = go (n == 0) refl
    where
      go : (b : Bool) → (n == 0) ≡ b → glimpse_at (sight state s) (if b then own else n) ≡ option_map (glimpse_of state s) (if b then Some caller else process_numbered state s n)
      go true e = own_seen state sound root caller own live is_own
      go false e =
          glimpse_at-sight state sound s n ∙ ap (option_map (glimpse_of state s)) (sym (process-task state threads s n))

  -- and it is a task that has a number in the caller's namespace
  self-there : (n : ℕ) (task : Row) → self_or_task state caller n ≡ Some task → IsIn task state.rows × ((m : ℕ) × (number state.spaces task.name s ≡ Some m))
  unfolding task_numbered
  self-there n task e = go (n == 0) e
    where
      go : (b : Bool) → (if b then Some caller else process_numbered state s n) ≡ Some task → IsIn task state.rows × ((m : ℕ) × (number state.spaces task.name s ≡ Some m))
      go true e =
          let same : caller ≡ task = ap (λ o. unwrap_or o caller) e in
          subst (λ (row : Row). IsIn row state.rows × ((m : ℕ) × (number state.spaces row.name s ≡ Some m))) same (there state sound root caller own live is_own, (own, is_own))
      go false e = let f = find-Some (λ row. is_numbered state.spaces row.name s n) state.rows task (sym (process-task state threads s n) ∙ e) in (f.0, (n, some_number (number state.spaces task.name s) n f.1))

  -- the tasks of the caller's own namespace are those that are seen
  listed_namespace : (reach : Reach) (n from most : ℕ) (listed : List ℕ) → IsInSight (sight state s) own (Namespace reach) n
      → AreLeastFrom (numbers_asked state caller (Namespace reach) n) from most listed → AreLeastFrom (members_seen reach (sight state s)) from most listed
  listed_namespace reach n from most listed alone_there l = go (self_or_task state caller n) refl
    where
      go : (o : Option Row) → self_or_task state caller n ≡ o → AreLeastFrom (members_seen reach (sight state s)) from most listed
      go None is =
          absurd (let z : None ≡ Some 1 = sym (ap (option_map (λ (g : Glimpse). length g.numbers)) (self_seen n ∙ ap (option_map (glimpse_of state s)) is)) ∙ alone_there in cc)
      go (Some task) is =
          let h = self-there n task is in
          let one : Some (length (numbers_from state.spaces task.name s)) ≡ Some 1 =
          sym (ap (option_map (λ (g : Glimpse). length g.numbers)) (self_seen n ∙ ap (option_map (glimpse_of state s)) is)) ∙ alone_there in
          let count : length (numbers_from state.spaces task.name s) ≡ 1 = ap (λ o. unwrap_or o 0) one in
          let own_space = eqb-true task.name.space s
          (sym (alone state sound s task h.0 (number-within state.spaces task.name s h.1.0 h.1.1).0) ∙ eq-eqb (length (numbers_from state.spaces task.name s)) 1 count) in
          members_listed state sound s reach from most listed
          (subst (λ t. AreLeastFrom (visible_numbers state reach t s) from most listed) own_space
          (subst (λ ns. AreLeastFrom ns from most listed) (ap (λ o. option_map_or (λ (row : Row). visible_numbers state reach row.name.space s) o []) is) l))

  -- whatever is in sight is told as it is seen
  listed_by : (whom : Whom) (n from most : ℕ) (listed : List ℕ) → IsInSight (sight state s) own whom n → AreLeastFrom (numbers_asked state caller whom n) from most listed
      → AreLeastFrom (numbers_seen_by (sight state s) own whom n) from most listed
  listed_by (Belonging kind) n from most listed above l = listed_seen kind n above from most listed l
  listed_by (Namespace reach) n from most listed one l = listed_namespace reach n from most listed one l

-- so a page that is told is told of what is seen
pub told_seen : (state : State) → state.threads ≡ [] → state.left ≡ [] → (page : Page) (old new : List ℕ) (reply : Reply)
    → TellsPage state page old new reply → TellsSeenPage state page old new reply
told_seen state threads left page old new reply t caller own c seen =
    let p = t.listed caller (sym (caller-live state threads left page.caller) ∙ c.live) in
    (p.0, listed_by state c.sound.coherent page.caller caller own c.live c.own threads page.whom page.number page.from (length old + 1) p.0 seen p.1, p.2, p.3)
