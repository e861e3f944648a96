-- What the table is asked before a call, as the model has it.
use Rattle.std.proofs.Common.{◌≡◌, ℕ, Bool, true, false, ◌==◌, nat_le, List, [], filter, Option, Some, None, inl, inr, refl, sym, ap, subst, ◌∙◌, arith, option_map, option_and_then, unwrap_or}
use Rattle.std.specs.Prelude.{Result, Ok, Err}
use Rattle.std.specs.Option.{option_map_or, option_eq}
use Rattle.std.proofs.lemmas.Bool.{eq-eqb, eqb-true}
use Rattle.pid_types.specs.declared.call.Call.TheVariants.{GetPid, Next}
use Rattle.pid_types.specs.declared.call.Kind.{Kind}
use Rattle.pid_types.specs.declared.call.Kind.TheVariants.{Task, Group, Session}
use Rattle.pid_types.specs.declared.plain.Row.{Row}
use Rattle.pid_types.specs.declared.reply.Refusal.{Refusal}
use Rattle.pid_types.specs.declared.reply.Refusal.TheVariants.{NoCaller, NoTask}
use Rattle.pid_types.specs.declared.reply.Reply.TheVariants.{End, Number, Refused}
use Rattle.pid_types.specs.Chains.{least_of}
use Rattle.pid_types.specs.Exit.{is_init}
use Rattle.pid_types.specs.Membership.{IsIn}
use Rattle.pid_types.specs.Names.{root_number, live_row, names_in_use, number}
use Rattle.pid_types.specs.Queries.{self_or_task, name_by, numbers_by, seen_number}
use Rattle.pid_types.specs.Sound.{IsSound}
use Rattle.pid_types.specs.State.{State}
unfoldable use Rattle.pid_types.specs.Queries.{get_pid, next}
unfoldable use Rattle.pid_types.specs.Step.{step}
use Rattle.model_laws.proofs.Ancestry.{number-root, root_init_row}
use Rattle.model_laws.proofs.Lists.{IsIn-filter, IsIn-filter_map, IsIn-from_filter, IsIn-from_filter_map}
use Rattle.model_laws.proofs.Names.{IsIn-names_in_use, used_by_row}
use Rattle.task_table.proofs.Alone.{caller-live}
use Rattle.pid_types.specs.Threads.{caller_of}
unfoldable use Rattle.translate.specs.Stat.{stat_at}
use Rattle.translate.specs.Stat.{stat_of}
use Rattle.translate.specs.declared.page.Page.{Page}
use Rattle.translate.specs.declared.page.Whom.{Whom}
use Rattle.translate.specs.declared.stat.Stat.{Stat}
use Rattle.translate.specs.Pages.{AreListedFrom, ListsPage, numbers_asked}
use Rattle.translate.proofs.Least.{least_bound, least-some}
use Rattle.call_effects.specs.Effects.{has_members_as}
use Rattle.call_effects.specs.Whom.{is_number, root_seen, IsRootList}
use Rattle.call_effects.proofs.Members.{a_member, has_member}
use Rattle.call_effects.proofs.Stays.{live_row-listed}

-- the root number that is read
abbrev pub root_told : Result Stat Refusal → Option ℕ
root_told (Ok stat) = Some stat.root
root_told (Err refusal) = None

-- a read tells whom the caller means
pub seen_root : (state : State) (n m : ℕ) → root_told (stat_at state n m) ≡ root_seen state n m
unfolding stat_at
seen_root state n m = go (live_row state.rows n)
  where
    task : (caller : Row) (t : Option Row)
        → root_told (option_map_or (λ row. Ok (stat_of state caller.name.space row)) t (Err NoTask)) ≡ option_map (λ (row : Row). root_number row.name) t
    task caller None = refl
    task caller (Some row) = refl

    go : (c : Option Row)
        → root_told (option_map_or (λ caller. option_map_or (λ row. Ok (stat_of state caller.name.space row)) (self_or_task state caller m) (Err NoTask)) c (Err NoCaller))
        ≡ option_and_then (λ caller. option_map (λ (row : Row). root_number row.name) (self_or_task state caller m)) c
    go None = refl
    go (Some caller) = task caller (self_or_task state caller m)

-- a caller is the init of its own namespace where its number there is 1
pub own_init : (state : State) (stamp n : ℕ) (row : Row) → caller_of state n ≡ Some row → is_number 1 (step state stamp (GetPid n)).reply ≡ is_init state row
unfolding step get_pid
own_init state stamp n row at =
    ap (λ o. is_number 1 (option_map_or (λ (caller : Row). Number (seen_number state caller caller.name)) o (Refused NoCaller))) at
    ∙ number_is (number state.spaces row.name row.name.space)
  where
    number_is : (o : Option ℕ) → (unwrap_or o 0 == 1) ≡ option_eq ◌==◌ o (Some 1)
    number_is None = refl
    number_is (Some m) = refl

-- a page that the root init asks for
abbrev pub root_page : Whom → ℕ → Page
root_page whom n = record { caller = 1; whom = whom; number = n; from = 0 }

-- its list
pub root_list : (state : State) (whom : Whom) (n : ℕ) (told : Option (List ℕ)) (listed : List ℕ) → told ≡ Some listed
    → ListsPage state (root_page whom n) told → IsRootList state whom n listed
root_list state whom n told listed is page root at =
    let l = page.listed root at in
    let same : l.0 ≡ listed = (let z : Some l.0 ≡ Some listed = sym l.2 ∙ is in cc) in
    subst (λ ns. AreListedFrom (numbers_asked state root whom n) 0 ns) same l.1

-- ---- members

-- the name that a row has by the kind is in use
named_in_use : (state : State) (kind : Kind) (row : Row) → IsIn row state.rows → IsIn (name_by kind row) (names_in_use state.rows)
named_in_use state Task row i = IsIn-names_in_use state.rows row row.name i (inl refl)
named_in_use state Group row i = IsIn-names_in_use state.rows row row.group i (inr (inl refl))
named_in_use state Session row i = IsIn-names_in_use state.rows row row.session i (inr (inr (inl refl)))

-- its number in the root namespace is its root number
named_at_root : (state : State) → IsSound state → (kind : Kind) (row : Row) → IsIn row state.rows → number state.spaces (name_by kind row) 0 ≡ Some (root_number (name_by kind row))
named_at_root state sound kind row i =
    let name = name_by kind row in
    number-root state.spaces state.pid_max name sound.coherent.spaces (sound.coherent.numbered name (used_by_row state name (named_in_use state kind row i)))

-- the next number from one on is that one, just where it has members
next_is : (state : State) → IsSound state → (kind : Kind) (n : ℕ)
    → is_number n (option_map_or Number (least_of (filter (nat_le n) (numbers_by state kind 0))) End) ≡ has_members_as kind state n
next_is state sound kind n = go (has_members_as kind state n) refl
  where
    all : List ℕ
    all = filter (nat_le n) (numbers_by state kind 0)

    go : (b : Bool) → has_members_as kind state n ≡ b → is_number n (option_map_or Number (least_of all) End) ≡ has_members_as kind state n
    go true so =
        let m = a_member kind state n so in
        let here : IsIn n all =
        IsIn-filter (nat_le n) n (numbers_by state kind 0) (IsIn-filter_map (λ row. number state.spaces (name_by kind row) 0) m.0 n state.rows m.1 (named_at_root state sound kind m.0 m.1 ∙ ap Some m.2)) (grind arith) in
        let least : least_of all ≡ Some n =
        least-some all n here (λ k i. let f = IsIn-from_filter (nat_le n) k (numbers_by state kind 0) i in let le = f.1 in grind (arith, le)) in
        ap (λ o. is_number n (option_map_or Number o End)) least ∙ eq-eqb n n refl ∙ sym so
    go false so = none (least_of all) refl ∙ sym so
      where
        none : (o : Option ℕ) → least_of all ≡ o → is_number n (option_map_or Number o End) ≡ false
        none None is = refl
        none (Some k) is = other (k == n) refl
          where
            other : (b : Bool) → (k == n) ≡ b → (k == n) ≡ false
            other false e = e
            other true e =
                let b = least_bound all k is in
                let f = IsIn-from_filter (nat_le n) k (numbers_by state kind 0) b.0 in
                let r = IsIn-from_filter_map (λ row. number state.spaces (name_by kind row) 0) k state.rows f.0 in
                let same : root_number (name_by kind r.0) ≡ n = (let z : Some (root_number (name_by kind r.0)) ≡ Some k = sym (named_at_root state sound kind r.0 r.1) ∙ r.2 in let y = eqb-true k n e in cc) in
                absurd (let z : true ≡ false = sym (has_member kind state r.0 n r.1 same) ∙ so in cc)

-- so the root init is told whether there are members
pub members_asked : (state : State) (stamp n : ℕ) (kind : Kind) → IsSound state → state.threads ≡ [] → state.left ≡ []
    → is_number n (step state stamp (Next 1 kind n)).reply ≡ has_members_as kind state n
unfolding step next
members_asked state stamp n kind sound threads left =
    let r = root_init_row state sound.coherent in
    let at = caller-live state threads left 1 ∙ subst (λ m. live_row state.rows m ≡ Some r.0) r.4 (live_row-listed state sound.coherent r.0 r.1 r.2) in
    ap (λ o. is_number n (option_map_or (λ (caller : Row). option_map_or Number (least_of (filter (nat_le n) (numbers_by state kind caller.name.space))) End) o (Refused NoCaller))) at
    ∙ ap (λ s. is_number n (option_map_or Number (least_of (filter (nat_le n) (numbers_by state kind s))) End)) r.3
    ∙ next_is state sound kind n
