-- The walks through the functions of a handle of any kind. Assumes `Logic`.
pub mod Words
use Words.*
pub use Words.{of_replica, of_table}
use mathlib.Core.List.{map}
use Prim.Native.Nat.{suc}
use denote.Memory.{part_of}
use Rattle.std.proofs.alloc.Global.TheLaws as heap_laws
use Rattle.std.specs.contracts.alloc.Global as heap

-- a function by how many lifetimes and parameters it has, the types of its locals, and its code
abbrev function : ℕ → ℕ → List Ty → Body → Fn
function m n types code = record { lifetimes = m; outlives = []; ty_params = []; givens = 0; params = n; locals = map (λ t. local t value_local) types; body = code }

-- the address in a handle's one field goes to another local, and from there to the next
abbrev address_to : ℕ → Body → Body
address_to n rest = seq (assign (place n []) (rv_opd (copy (place 1 (field 0 ∷ []))))) (seq (assign (place (suc n) []) (rv_opd (copy (place n [])))) rest)

module _ (K : Kind) where
  abbrev Box : RattleType
  Box = Loose K.R heap.the_row heap_laws.the_row_laws ghosts

  abbrev empty_ended : Ended
  empty_ended = record { signature = record { lifetimes = 0; outlives = []; params = plain (λ _. heap.the_row) ∷ plain (λ _. RawPtr) ∷ []; result = plain (λ _. Handle K) }; kept = (yes, (yes, tt)) }

  abbrev empty_fn : Fn
  empty_fn = function 0 2 (lone (Handle K).mir ∷ lone heap.the_row.mir ∷ ty_ptr ∷ []) (seq (assign (place 0 []) (aggregate (copy (place 2 []) ∷ []))) return)

  abbrev of_ended : Ended
  of_ended = record { signature = record { lifetimes = 0; outlives = []; params = plain (λ _. Box) ∷ []; result = plain (λ _. Handle K) }; kept = (yes, tt) }

  abbrev of_fn : Fn
  of_fn = function 0 1 (lone (Handle K).mir ∷ lone Box.mir ∷ ty_ptr ∷ ty_ptr ∷ []) (address_to 2 (seq (assign (place 0 []) (aggregate (copy (place 3 []) ∷ []))) return))

  abbrev into_loose_ended : Ended
  into_loose_ended = record { signature = record { lifetimes = 0; outlives = []; params = plain (λ _. Handle K) ∷ plain (λ _. heap.the_row) ∷ []; result = plain (λ _. Box) }; kept = (yes, (yes, tt)) }

  abbrev into_loose_fn : Fn
  into_loose_fn = function 0 2 (lone Box.mir ∷ lone (Handle K).mir ∷ lone heap.the_row.mir ∷ ty_ptr ∷ ty_ptr ∷ [])
      (address_to 3 (seq (assign (place 0 []) (aggregate (copy (place 4 []) ∷ copy (place 2 []) ∷ []))) return))

  abbrev lend_ended : Ended
  lend_ended = record { signature = record { lifetimes = 1; outlives = []; params = mut_ref_to (0 ∷ []) tt (plain (λ _. Handle K)) ∷ []; result = mut_ref_to (0 ∷ []) tt (plain (λ _. K.R)) }; kept = (no, tt) }

  abbrev rest : Body
  rest = seq (assign (place 0 []) (rv_opd (copy (place 2 [])))) return

  abbrev lend_fn : Fn
  lend_fn = function 1 1 (ty_ref (named 0) mut (pointee K.R.written) ∷ ty_ref (named 0) mut (pointee (Handle K).written) ∷ ty_ref erased mut (pointee K.R.written) ∷ ty_ptr ∷ ty_ptr ∷ [])
      (seq (block (seq (assign (place 3 []) (rv_opd (copy (place 1 (deref (lone (Handle K).mir) ∷ field 0 ∷ []))))) (seq (assign (place 4 []) (rv_opd (copy (place 3 []))))
      (assign (place 2 []) (addr_of (place 4 (deref (lone K.R.mir) ∷ []))))))) rest)

  module _ {M : Type 1} {𝓤 : Ura M} (𝓛 : Logic 𝓤) (d : K.struct.D) (b o b' o' : ℕ) where
    -- all of the handle but what it holds
    abbrev Rest : Fml
    Rest = fsep (ghosts.dealloc_token (K.parts d).2 (bare (lone K.R.mir)) (block_ptr b' o')) (cell_at full_share (Handle K).mir (alone b' o' ∷ []) b o)

    back : (K.parts d).0 ≡ block_ptr b' o' → (w : K.R.Denot) → ent 𝓤 (sep 𝓤 (sem 𝓛 ((mem K.R).own_at w b' o')) (sem 𝓛 Rest)) (sem 𝓛 ((mem (Handle K)).own_at (with_value K d w) b o))
    unfolding part_of
    back here w =
        qed 𝓛 (‵ (part_at K.R full_share w b' o') ∷ ‵ Rest ∷ []) ∵ move ! (1 ∷ []) $ fsplit ! $ move ! (2 ∷ 0 ∷ []) $ fjoin ! $
        handle_closes K ! (block_ptr b' o') (Some w) (K.parts d).2 $
        rewrite ! 0 (λ (p : Ptr). ‵ ((Handle K).own_val (K.make p (Some w) (K.parts d).2) (alone b' o' ∷ []))) (sym here) refl $
        move ! (1 ∷ 0 ∷ []) $ fjoin ! $
        fpack ! (List Val) (λ us. fsep (cell_at full_share (Handle K).mir us b o) ((Handle K).own_val (with_value K d w) us)) (alone b' o' ∷ []) $ done !

  module _ {M : Type 1} {𝓤 : Ura M} (𝓛 : Logic 𝓤) (𝓜 : Model 𝓤 𝓛.H) (𝓡 : Running 𝓤 𝓛.H 𝓜) (k : Callee) where
    abbrev 𝓣 : MachineTables 𝓤 𝓛.H 𝓜
    𝓣 = tables 𝓤 𝓛.H 𝓜 𝓡 𝓡.env

    -- a function that has this code meets these clauses
    abbrev Meeting : (T : Ended) → Clauses 𝓤 T → Fn → Type 2
    Meeting T c fn = Closed 𝓤 𝓛.H 𝓣.C 𝓣.Λ k fn → Meets 𝓛 T.signature (𝓣.C k) (closing 𝓛 T c)

    abbrev empty_clauses : Clauses 𝓤 empty_ended
    empty_clauses κs a = record { ghost = Unit {0}; requires = λ _. emp 𝓤; ensures = λ _ r _. fact 𝓤 ((K.parts r).1 ≡ None) }

    abbrev of_clauses : Clauses 𝓤 of_ended
    of_clauses κs a = record { ghost = Unit {0}; requires = λ _. emp 𝓤; ensures = λ _ r _. fact 𝓤 ((K.parts r).1 ≡ Some a.0.value) }

    abbrev into_loose_clauses : Clauses 𝓤 into_loose_ended
    into_loose_clauses κs a = record { ghost = Unit {0}; requires = λ _. fact 𝓤 (IsSome (K.parts a.0).1); ensures = λ _ r _. fact 𝓤 (Some r.value ≡ (K.parts a.0).1) }

    abbrev lend_clauses : Clauses 𝓤 lend_ended
    lend_clauses κs a = record {
      ghost = Unit {0};
      requires = λ _. fact 𝓤 (IsSome (K.parts a.0.now).1);
      ensures = λ _ r _. sep 𝓤 (sem 𝓛 (Lends (Handle K) K.R a.0 r (with_value K a.0.now))) (fact 𝓤 (Some r.now ≡ (K.parts a.0.now).1));
    }

    -- `empty` owns nothing
    pub empty : Meeting empty_ended empty_clauses empty_fn
    empty closed = let Z : RattleType = heap.the_row in let c = empty_clauses in let fn = empty_fn in
        let hs : Stays empty_ended.signature.params empty_ended.kept = (stay_dropped (plain (λ _. Z)) yes, (stay_dropped (plain (λ _. RawPtr)) yes, tt)) in
        proved_at 𝓛 empty_ended hs c 𝓜 𝓡 (Goes-blank 𝓛 0 (plain (λ _. Z)) yes (λ κs x f. tt), (Goes-blank 𝓛 0 (plain (λ _. RawPtr)) yes (λ κs x f. tt), tt)) k fn closed (λ z are.
        let κs = z.0.0 in let a = z.0.3.0 in let p = z.0.3.1.0 in let Post : Val → SProp 𝓤 = (walk_of 𝓛 empty_ended hs c).post z in let Run : List Val → SProp 𝓤 = λ ws. WpFn 𝓤 𝓛.H 𝓣.C 𝓣.Λ fn ws Post in
        let asked = raw ((c κs z.0.3).requires z.1) in let r = K.make p None a in let says = (K.parts r).1 ≡ None in
        qed 𝓛 ((‵ ftrue ⊛ ‵ (owns (types_at empty_ended.signature.params κs) z.0.3 z.0.4)) ∷ asked ∷ []) ∵ split ! $ move ! (1 ∷ []) $ fsplit ! $
        handle_tells (allocator K.R Z heap_laws.the_row_laws ghosts) ! a z.0.4.0 (λ h is_h good. move ! (1 ∷ []) $ fsplit ! $ feq_l ! (λ is_p.
        let v : Val = ptr_val p in let fits = (rawptr_Lawful 𝓛).typed p (v ∷ []) refl in let us : List Val = h ∷ v ∷ [] in
        suffices ! (Run us) (subst (λ (ws : List Val). ent 𝓤 (Run us) (Run ws)) (sym (λ i. is_h i ++ (is_p i ++ []))) (id⊢ 𝓤 (Run us))) $
        enter ! 𝓣.C 𝓣.Λ fn us Post $ alloc_all ! (λ l. pass_all ! refl (good, fits) $
        sets ! (agg ! (and_then ! (get ! refl) (no_more !))) refl (and_tt (has_ty ty_ptr v) fits.0.0, (fits.0.1, tt)) $
        nothing ! $ handle_closes K ! p None a $
        use0 𝓛 (raw (fact 𝓤 says)) (fact_i 𝓤 says (emp 𝓤) (λ i. (K.made p None a i).1)) $ nothing ! $ nothing ! $ fjoin ! $ nothing ! $ fjoin ! $ nothing ! $
        returns ! (look_at ! 0 refl) $ free_all ! refl $ keep ! (0 ∷ 1 ∷ 3 ∷ 2 ∷ []) $ by ! (leaves 𝓛 empty_ended hs c z (vstruct (vcons v vnil)) r _ (tt, (tt, tt)))))))

    -- `of` keeps the address
    pub of : Meeting of_ended of_clauses of_fn
    of closed = let Z : RattleType = heap.the_row in let LZ = heap_laws.the_row_laws in let c = of_clauses in let fn = of_fn in
        let hs : Stays of_ended.signature.params of_ended.kept = (stay_dropped (plain (λ _. Box)) yes, tt) in
        proved_at 𝓛 of_ended hs c 𝓜 𝓡 (Goes-blank 𝓛 0 (plain (λ _. Box)) yes (λ κs x f. tt), tt) k fn closed (λ z are.
        let κs = z.0.0 in let v = z.0.3.0 in let Post : Val → SProp 𝓤 = (walk_of 𝓛 of_ended hs c).post z in let Run : List Val → SProp 𝓤 = λ ws. WpFn 𝓤 𝓛.H 𝓣.C 𝓣.Λ fn ws Post in
        let asked = raw ((c κs z.0.3).requires z.1) in
        qed 𝓛 ((‵ ftrue ⊛ ‵ (owns (types_at of_ended.signature.params κs) z.0.3 z.0.4)) ∷ asked ∷ []) ∵ split ! $ move ! (1 ∷ []) $ fsplit ! $ loose_opens K.R Z LZ ghosts ! v z.0.4.0 (λ b o h here whole_is good.
        let w : Val = beside b o h in let fits = beside_fits K.R Z LZ ghosts b o h good in let r = K.make (block_ptr b o) (Some v.value) v.alloc in let says = (K.parts r).1 ≡ Some v.value in
        suffices ! (Run (w ∷ [])) (subst (λ (us : List Val). ent 𝓤 (Run (w ∷ [])) (Run us)) (sym (λ i. whole_is i ++ [])) (id⊢ 𝓤 (Run (w ∷ [])))) $
        enter ! 𝓣.C 𝓣.Λ fn (w ∷ []) Post $ alloc_all ! (λ l. pass_all ! refl (fits, tt) $
        sets ! (of_opd ! (get_in ! (fld ! refl (stop !)) (sub ! 0 refl (whole !)))) refl (tt, tt) $ sets ! (of_opd ! (get ! refl)) refl (tt, tt) $
        sets ! (agg ! (and_then ! (get ! refl) (no_more !))) refl (tt, (tt, tt)) $
        handle_closes K ! (block_ptr b o) (Some v.value) v.alloc $
        use0 𝓛 (raw (fact 𝓤 says)) (fact_i 𝓤 says (emp 𝓤) (λ i. (K.made (block_ptr b o) (Some v.value) v.alloc i).1)) $ nothing ! $ nothing ! $ fjoin ! $ nothing ! $
        returns ! (look_at ! 0 refl) $ free_all ! refl $ keep ! (0 ∷ 1 ∷ 3 ∷ 2 ∷ []) $ by ! (leaves 𝓛 of_ended hs c z (alone b o) r _ (tt, tt)))))

    -- `into_loose` gives the address with what is there
    pub into_loose : Meeting into_loose_ended into_loose_clauses into_loose_fn
    into_loose closed = let Z : RattleType = heap.the_row in let LZ = heap_laws.the_row_laws in let c = into_loose_clauses in let fn = into_loose_fn in
        let hs : Stays into_loose_ended.signature.params into_loose_ended.kept = (stay_dropped (plain (λ _. Handle K)) yes, (stay_dropped (plain (λ _. Z)) yes, tt)) in
        proved_at 𝓛 into_loose_ended hs c 𝓜 𝓡 (Goes-blank 𝓛 0 (plain (λ _. Handle K)) yes (λ κs x f. tt), (Goes-blank 𝓛 0 (plain (λ _. Z)) yes (λ κs x f. tt), tt)) k fn closed (λ z are.
        let κs = z.0.0 in let v = z.0.3.0 in let a = z.0.3.1.0 in let Post : Val → SProp 𝓤 = (walk_of 𝓛 into_loose_ended hs c).post z in let Run : List Val → SProp 𝓤 = λ ws. WpFn 𝓤 𝓛.H 𝓣.C 𝓣.Λ fn ws Post in
        let o = (K.parts v).1 in
        qed 𝓛 ((‵ ftrue ⊛ ‵ (owns (types_at into_loose_ended.signature.params κs) z.0.3 z.0.4)) ∷ raw (fact 𝓤 (IsSome o)) ∷ []) ∵ split ! $ move ! (2 ∷ []) $ heard ! _ (λ some.
        let x = (held o some).0 in let holds = (held o some).1 in let says = Some x ≡ o in
        move ! (1 ∷ []) $ fsplit ! $ handle_opens K ! v x z.0.4.0 holds (λ b o here whole_is.
        move ! (1 ∷ []) $ fsplit ! $ handle_tells (allocator K.R Z LZ ghosts) ! a z.0.4.1.0 (λ h is_h good.
        -- [the allocator; nothing; what is at the address]
        let us : List Val = alone b o ∷ h ∷ [] in
        suffices ! (Run us) (subst (λ (ws : List Val). ent 𝓤 (Run us) (Run ws)) (sym (λ i. whole_is i ++ (is_h i ++ []))) (id⊢ 𝓤 (Run us))) $
        enter ! 𝓣.C 𝓣.Λ fn us Post $ alloc_all ! (λ l. pass_all ! refl ((tt, (tt, tt)), (good, tt)) $
        sets ! (of_opd ! (get_in ! (fld ! refl (stop !)) (sub ! 0 refl (whole !)))) refl (tt, tt) $ sets ! (of_opd ! (get ! refl)) refl (tt, tt) $
        sets ! (agg ! (and_then ! (get ! refl) (and_then ! (get ! refl) (no_more !)))) refl (beside_fits K.R Z LZ ghosts b o h good) $
        move ! (2 ∷ 0 ∷ []) $ loose_closes K.R Z LZ ghosts ! b o h a x $
        use0 𝓛 (raw (fact 𝓤 says)) (fact_i 𝓤 says (emp 𝓤) (sym holds)) $ nothing ! $ nothing ! $ fjoin ! $ nothing ! $ fjoin ! $ nothing ! $
        returns ! (look_at ! 0 refl) $ free_all ! refl $ keep ! (0 ∷ 1 ∷ 3 ∷ 2 ∷ []) $ by ! (leaves 𝓛 into_loose_ended hs c z (beside b o h) (record { at = block_ptr b o; alloc = a; value = x }) _ (tt, (tt, tt))))))))

    -- `lend` lends what is at its address, and the handle follows it
    pub lend : Meeting lend_ended lend_clauses lend_fn
    lend closed = let En = lend_ended in let c = lend_clauses in let fn = lend_fn in let R : RattleType = Handle K in let T : RattleType = K.R in
        let hs : Stays En.signature.params En.kept = (stay_dropped (mut_ref_to (0 ∷ []) tt (plain (λ κs. R))) no, tt) in let W = walk_of 𝓛 En hs c in
        proved 𝓛 En hs c 𝓜 𝓡 (Goes-spent_ref 𝓛 1 (0 ∷ []) tt (plain (λ κs. R)), tt) k fn closed (λ κs. (mut_vals, tt)) (λ κs. (mut_Tells (named 0) κs.0 R, tt)) (λ κs qs bounds a g are.
        let κ = κs.0 in let q = qs.0 in let self = a.0 in let d = self.now in let b = self.ref_ptr.0 in let o = self.ref_ptr.1 in let γ = self.ghost_name in
        let y : W.Ghost = ((κs, qs, bounds, a, (mut_vals a.0, tt)), g) in let Post = W.post y in let c' = R.coded.code d in let m = (K.parts d).1 in let F = with_value K d in
        qed 𝓛 (((‵ (flft κ q) ⊛ ‵ ftrue) ⊛ ‵ (owns (MutRef (named 0) κ R ∷ []) (self, tt) (vptr b o ∷ [], tt))) ∷ raw (fact 𝓤 (IsSome m)) ∷ []) ∵
        move ! (1 ∷ []) $ heard ! _ (λ has. let x = (held m has).0 in let holds = (held m has).1 in let says = Some x ≡ m in
        enter ! 𝓣.C 𝓣.Λ fn (vptr b o ∷ []) _ $ alloc_all ! (λ ls. pass_all ! refl ((tt, tt), tt) $ let Ev : Env 𝓤 𝓛.H = env fn.locals ls in
        split ! $ split ! $ move ! (2 ∷ []) $ fsplit ! $ fsplit3 ! $ drop ! $ move ! (0 ∷ 1 ∷ 3 ∷ []) $
        opens ! tt R {h = d} b o (λ vs. move ! (1 ∷ []) $ handle_opens K ! d x vs holds (λ b' o' here whole_is.
        rewrite ! 1 (λ (us : List Val). ‵ (cell_at full_share R.mir us b o)) whole_is refl $ fsplit ! $
        -- [what is held; the right to free it; the word; the open borrow; obs; auth; nothing; no other tokens]
        first ! $ blocks ! $ sets ! (of_opd ! (load ! (through ! refl (fld ! refl (stop !))) (look_in ! 2 (sub ! 0 refl (whole !))))) refl (tt, tt) $ sets ! (of_opd ! (get ! refl)) refl (tt, tt) $
        sets_last ! (addr ! (through ! refl (stop !))) refl (tt, tt) $ exec ! 𝓣.C 𝓣.Λ Ev rest (at_ret Ev Post) $ sets ! (of_opd ! (get ! refl)) refl (tt, tt) $
        move ! (1 ∷ 2 ∷ []) $ fjoin ! $ move ! (2 ∷ 3 ∷ 4 ∷ 1 ∷ 0 ∷ []) $ group ! 5 $
        let left = sem 𝓛 (Rest 𝓛 d b o b' o') in let again = back 𝓛 d b o b' o' here in
        use1 𝓛 (later (some (λ (γ' : GName). raw (Part 𝓛 R T F (named 0) κ q b o b' o' γ left again x γ')))) (lends_Part 𝓛 R T F (named 0) κ q b o b' o' γ left again c' c' x) $ await ! tt $ pick ! (λ γ'.
        let r : MutBor T.Denot = record { ref_ptr = (b', o'); ghost_name = γ'; now = x } in
        use1 𝓛 (‵ ((MutRef (named 0) κ T).own_val r (vptr b' o' ∷ [])) ⊛ ‵ (flft κ q) ⊛ ‵ (follows R T γ γ' F)) (id⊢ 𝓤 _) $ split3 ! $
        returns ! (look_at ! 0 refl) $ free_all ! refl $ keep ! (0 ∷ 1 ∷ 4 ∷ 2 ∷ []) $ move ! (1 ∷ 2 ∷ []) $ join ! $
        suffices ! _ (ends_at 𝓛 En hs c y (vptr b' o') r (tt, tt) (tt, tt)) $
        use0 𝓛 (raw (fact 𝓤 says)) (fact_i 𝓤 says (emp 𝓤) (sym holds)) $ move ! (3 ∷ 0 ∷ []) $ join ! $ move ! (2 ∷ []) $
        nothing ! $ nothing ! $ fjoin ! $ join ! $ move ! (2 ∷ 0 ∷ []) $ join ! $ done !))))))
