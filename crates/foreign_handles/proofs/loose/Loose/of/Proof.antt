-- `of` takes the box apart, and keeps its address and its allocator.
use Rattle.foreign_handles.proofs.Walks.Words.{ !, Goes-blank, List, Ptr, RattleType, RawPtr, SProp, Stays, Tuple, Val, WpFn, [], a_type, agg, alloc_all}
use Rattle.foreign_handles.proofs.Walks.Words.{allocator, and_then, ap, await, bare, beside, beside_fits, block_ptr, bounded, box_owns, by, calls_at, dcons}
use Rattle.foreign_handles.proofs.Walks.Words.{dnil, drop, emp, ent, enter, fact, fact_i, feq_l, fjoin, fld, flft, fpick, framed, free_all, fsep, fsplit}
use Rattle.foreign_handles.proofs.Walks.Words.{fst∗, ftrue, get, get_in, handle_tells, heard, id⊢, in_a_block, inst_fn, join, keep, lands_as, later, layout}
use Rattle.foreign_handles.proofs.Walks.Words.{leaves, look_at, loose_closes, move, never, no, no_more, nothing, null_ptr, of_list, of_opd, one, only, owns}
use Rattle.foreign_handles.proofs.Walks.Words.{param, param_laws, pass_all, pick, plain, proved_at, ptr_val, qed, raw, refl, returns, rewrite, sem, sets}
use Rattle.foreign_handles.proofs.Walks.Words.{some, split, split3, stay_dropped, stop, sub, subst, suffices, sym, tables, triple_of, types_at, use0, use1}
use Rattle.foreign_handles.proofs.Walks.Words.{vstruct, walk_of, whole, ‵, ◌$◌, ◌++◌, ◌∙◌, ◌∵◌, ◌∷◌, ◌≡◌, ◌⊛◌}
use Rattle.std.specs.contracts.boxed.Box as box
use Rattle.std.proofs.boxed.Box.{TheLaws.the_row_laws, into_raw_with_allocator.Met.met}
use Rattle.std.specs.contracts.boxed.Box.into_raw_with_allocator as callee
use Rattle.foreign_handles.specs.contracts.loose.Loose.of as f
use Rattle.foreign_handles.proofs.loose.Loose.of.Statement.{statement}
use Rattle.foreign_handles.proofs.loose.Loose.of.Code as code

pub of_spec : {M : Type 1} → statement M
of_spec 𝓤 𝓛 𝓜 𝓡 wired T A L LA g d dx dd allocates glue glued =
    let H = 𝓛.H in let 𝓣 = tables 𝓤 H 𝓜 𝓡 𝓡.env in let R : RattleType = param 0 T in let Z : RattleType = param 1 A in let LZ = param_laws 1 A LA in
    let B : RattleType = box.the_row R Z g in let inst = bounded (a_type ∷ a_type ∷ []) (T, (A, tt)) (dcons d (dcons dx (dcons dd dnil))) in let fn = inst_fn inst code.function in
    let En = f.ended T A g d dx dd in let c = f.clauses T A g d dx dd 𝓛 𝓜.mem 𝓡.returns in
    let hs : Stays En.signature.params En.kept = (stay_dropped (plain (λ _. B)) no, tt) in
    proved_at 𝓛 En hs c 𝓜 𝓡 (Goes-blank 𝓛 2 (plain (λ _. B)) no (λ κs x f. tt), tt) (f.Key.name inst) fn (code.unfolded 𝓤 H 𝓜 𝓡 wired (T, (A, tt)) d dx dd) (λ z are.
    let κs = z.0.0 in let qs = z.0.1 in let v = z.0.3.0 in let a = v.alloc in let x = v.value in let Post : Val → SProp 𝓤 = (walk_of 𝓛 En hs c).post z in let Run : List Val → SProp 𝓤 = λ ws. WpFn 𝓤 H 𝓣.C 𝓣.Λ fn ws Post in
    let tokens = ‵ (flft κs.0 qs.0) ⊛ ‵ (flft κs.1.0 qs.1.0) ⊛ ‵ ftrue in let asked = raw ((c κs z.0.3).requires z.1) in
    let LB = the_row_laws R Z g (param_laws 0 T L) LZ in let w = one (layout B) z.0.4.0 ((LB.lawful 𝓛).typed v z.0.4.0 are.0) in
    let k = triple_of 𝓛 (callee.signature T A g d dd dx) (callee.spec T A g d dd dx 𝓛 𝓜.mem 𝓡.returns) in let y : k.Ghost = ((κs, qs, tt, (v, tt), (w.0 ∷ [], tt)), tt) in let Pair = Tuple (RawPtr ∷ Z ∷ []) in
    qed 𝓛 ((tokens ⊛ ‵ (owns (types_at En.signature.params κs) z.0.3 z.0.4)) ∷ asked ∷ []) ∵
    -- [the box; nothing; the tokens; what is asked]: all that the callee asks
    split ! $ move ! (1 ∷ []) $ fsplit ! $ rewrite ! 0 (λ (us : List Val). ‵ (B.own_val v us)) w.1 refl $ fjoin ! $ move ! (1 ∷ 0 ∷ []) $ join ! $ join ! $ use1 𝓛 (raw (k.pre y)) (id⊢ 𝓤 _) $
    suffices ! (Run (w.0 ∷ [])) (subst (λ (us : List Val). ent 𝓤 (Run (w.0 ∷ [])) (Run us)) (sym (λ i. w.1 i ++ [])) (id⊢ 𝓤 (Run (w.0 ∷ [])))) $
    enter ! 𝓣.C 𝓣.Λ fn (w.0 ∷ []) Post $ alloc_all ! (λ l. pass_all ! refl (w.2, tt) $ sets ! (of_opd ! (get ! refl)) refl w.2 $
    calls_at ! (framed 𝓤 H 𝓜 𝓣) k (met 𝓤 𝓛 𝓜 𝓡 (code.calls-std_alloc::boxed::Box::into_raw_with_allocator 𝓡.env wired) T A L LA g d dd dx allocates glued glue) y (and_then ! (get ! refl) (no_more !)) (λ u.
    use1 𝓛 (later (some (λ (r : Ptr × A.Denot). (tokens ⊛ ‵ (Pair.own_val r (u ∷ []))) ⊛ some (λ (_ : (Unit {0} × (Unit {0} × Unit {0})) × Unit {0}). ‵ (fsep (fsep ftrue (fsep ftrue ftrue)) ftrue) ⊛ (raw (fact 𝓤 (r.1 ≡ a)) ⊛ ‵ (box_owns (g.dealloc_token a) R r.0 x)))))) (id⊢ 𝓤 _) $
    await ! tt $ pick ! (λ r. split ! $ move ! (1 ∷ []) $ pick ! (λ _. split3 ! $ drop ! $ heard ! (r.1 ≡ a) (λ same.
    -- [what is at the address; the tokens and the pair]
    in_a_block ! r.0 (λ p. box_owns (g.dealloc_token a) R p x) (fst∗ 𝓤 (never 𝓤) (sem 𝓛 (g.dealloc_token a (bare (layout T)) null_ptr))) (λ b o here.
    move ! (1 ∷ []) $ split ! $ move ! (1 ∷ []) $ fpick ! (λ parts. fsplit ! $ feq_l ! (λ whole_is. fsplit ! $ feq_l ! (λ address. fsplit ! $ rewrite ! 0 (λ (s : A.Denot). ‵ (A.own_val s parts.1.0)) same refl $
    handle_tells (allocator R Z LZ g) ! a parts.1.0 (λ h is_h good.
    -- [the handle to the allocator; nothing; the tokens; what is at the address]
    let made = beside_fits R Z LZ g b o h good in let pair_is = whole_is ∙ (λ i. vstruct (of_list ((address ∙ ap (λ (p : Ptr). ptr_val p ∷ []) here) i ++ (is_h i ++ []))) ∷ []) in
    lands_as ! (ap only pair_is) refl made $
    sets ! (of_opd ! (get_in ! (fld ! refl (stop !)) (sub ! 0 refl (whole !)))) refl (tt, tt) $ sets ! (of_opd ! (get_in ! (fld ! refl (stop !)) (sub ! 1 refl (whole !)))) refl good $
    sets ! (of_opd ! (get ! refl)) refl good $ sets ! (agg ! (and_then ! (get ! refl) (and_then ! (get ! refl) (no_more !)))) refl made $
    move ! (3 ∷ 0 ∷ []) $ loose_closes R Z LZ g ! b o h a x $
    use0 𝓛 (raw (fact 𝓤 (x ≡ x))) (fact_i 𝓤 (x ≡ x) (emp 𝓤) refl) $ nothing ! $ nothing ! $ fjoin ! $
    returns ! (look_at ! 0 refl) $ free_all ! refl $ keep ! (4 ∷ 0 ∷ 2 ∷ 1 ∷ []) $ by ! (leaves 𝓛 En hs c z (beside b o h) (record { at = block_ptr b o; alloc = a; value = x }) ((tt, (tt, tt)), tt) (tt, tt)))))))))))))
