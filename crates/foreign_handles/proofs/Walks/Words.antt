-- The words of the toolchain for a walk, passed on from one place, and what a loose box and a handle are to the prover. Assumes `Logic`.
pub use Rattle.pid_types.proofs.General.{held}
pub use Rattle.std.proofs.Common.{List, [], ap, refl, subst, sym, ℕ, ◌++◌, ◌∙◌, ◌∷◌, ◌≡◌}
pub use Rattle.std.proofs.{Crossing.frees, ResultValues.and_tt, VecSteps.Shapes.after, alloc.Calls.Al, alloc.Calls.Goes-blank, alloc.Calls.handle_tells}
pub use Rattle.std.proofs.{cell.Inside.Good, cell.Inside.one, raw_atomic.Walks.leaves, raw_atomic.Walks.proved, raw_atomic.Walks.proved_at}
pub use Rattle.std.specs.Prelude.{IsSome, None, Option, Some}
pub use Rattle.std.specs.{Borrow.Lends, Borrow.MutBor, Box.Ownership.box_owns, Global.Global, contracts.impls.GlobalAllocator.TheImpl.ghosts}
pub use base.Logic.{SProp, emp, ent, fst∗, id⊢, never, sep}
pub use base.{Fml.Fml, Fml.GName, Fml.flft, Fml.fsep, Fml.ftrue, Fraction.full_share, Shift.Keyless}
pub use contract.{Monad.fact, Monad.fact_i, Running.MachineTables, Running.Running, Running.tables}
pub use denote.Param.Send.{IsSend, Quiet, owning_send, part_keyless, sendable, struct_send}
pub use denote.RawPtr.{Ptr, RawPtr, block_ptr, in_a_block, lies_at, null_ptr, ptr_val, rawptr_Lawful}
pub use denote.Triple.Walked.{Goes-spent_ref, Stays, ends_at, stay_dropped, walk_of}
pub use denote.{Exit.Exit, Exit.hidden, Exit.no, Exit.unchanged, Exit.under, Exit.yes, Follow.Part, Follow.follows, Follow.lends_Part, Laws.Is, Laws.shows}
pub use denote.{Memory.cell_at, Memory.lone, Memory.mem, Memory.part_at, Memory.pointee, Param.Laws.Laws, Param.Laws.param_laws, Param.bounded, Param.layout}
pub use denote.{Param.param, RattleType.RattleType, RattleType.Valss, RattleType.owns, Ref.MutRef, Ref.mut_Tells, Ref.mut_vals, Signature.mut_ref_to}
pub use denote.{Signature.plain, Signature.types_at, Steps.heard, Steps.nothing, Steps.only, Steps.opens, Steps.peeks, Struct.Owning.Owning}
pub use denote.{Struct.Owning.fields, Struct.Owning.row, Struct.Owning.shape, Struct.Owning.to, Struct.Struct.Struct, Struct.Struct.exits_of}
pub use denote.{Struct.Struct.within, Struct.Tuple.Tuple, Triple.Call.calls_at, Triple.Call.calls_at_last, Triple.Clauses.Clauses, Triple.Clauses.Ended}
pub use denote.{Triple.Clauses.Lasts, Triple.Clauses.closing, Triple.Clauses.lasts, Triple.Spec.Meets, Triple.Spec.triple_of, Triple.Table.framed}
pub use mir.Raw.{raw as bare}
pub use mir.Syntax.{Body, Callee, Fn, Ty, a_type, addr_of, aggregate, assign, block, copy, dcons, deref, dnil, erased, field, impl, local, mut, named, place}
pub use mir.Syntax.{return, rv_opd, seq, tnil, ty_ptr, ty_ref, value_local}
pub use mir.{MapTy.inst_fn, Val.Val, Val.WT, Val.has_ty, Val.of_list, Val.vcons, Val.vnil, Val.vptr, Val.vstruct}
pub use prog.{Model.Model, Wp.Closed, Wp.Env, Wp.WpFn}
pub use seplogic.Ra.Ura.{Ura}
pub use types.ByLocal.{alloc_all, env, free_all, get, get_in, lands_as, lands_last, look_at, pass_all, sets, sets_last, through}
pub use types.Kit.{ !, Goal, Item, Seq, Step, at_ret, await, by, done, drop, feq_i, feq_l, fjoin, fpack, fpick, fsplit, fsplit3, group, join, keep, later}
pub use types.Kit.{move, pick, qed, raw, rewrite, some, split, split3, step, suffices, use0, use1, ‵, ◌$◌, ◌∵◌, ◌⊛◌}
pub use types.Run.{addr, and_then, blocks, enter, exec, first, fld, load, no_more, of_opd, returns, stop}
pub use types.{Logic.Logic, Logic.sem, Part.agg, Part.look_in, Part.sub, Part.whole}
use Rattle.foreign_handles.specs.Owned.{IfHeld}
use Rattle.std.specs.declared.alloc.Allocator.{Ghosts}
use denote.Struct.Field.{RawPtr-field}
use lib.Dec.{T}
use mathlib.Core.Bool.{true, ◌&&◌}
use Rattle.foreign_handles.specs.contracts.handle.Handle as table_handle
use Rattle.foreign_handles.specs.contracts.held.Held as table
use Rattle.foreign_handles.specs.contracts.loose.Loose as loose
use Rattle.foreign_handles.specs.contracts.replica_handle.ReplicaHandle as replica_handle
use Rattle.replica.specs.contracts.host.Host as replica

-- an address and a handle to an allocator
abbrev pub beside : ℕ → ℕ → Val → Val
beside b o h = vstruct (vcons (vptr b o) (vcons h vnil))

module _ (R Z : RattleType) (L : Laws Z) (g : Ghosts Z.Denot) where
  abbrev pub Loose : RattleType
  Loose = loose.the_row R Z g

  abbrev pub allocator : Al
  allocator = record { row = Z; laws = L; g = g; d = impl [] tnil dnil; drops = impl [] tnil dnil }

  pub beside_fits : (b o : ℕ) (h : Val) → Good (layout Z) h → T (has_ty (layout Z) h && true) × WT (beside b o h)
  beside_fits b o h good = (and_tt (has_ty (layout Z) h) good.0, (tt, (good.1, tt)))

  module _ {M : Type 1} {𝓤 : Ura M} {𝓛 : Logic 𝓤} {K : Type 0} {Γ : List (Item 𝓤)} {G : Goal 𝓤 𝓛.H} where
    -- what a loose box owns is what is at its address, and its handle to the allocator
    pub loose_opens : K → (d : Loose.Denot) (vs : List Val)
        → ((b o : ℕ) (h : Val) → d.at ≡ block_ptr b o → vs ≡ beside b o h ∷ [] → Good (layout Z) h → Seq K 𝓛 (‵ (box_owns (g.dealloc_token d.alloc) R (block_ptr b o) d.value) ∷ ‵ (Z.own_val d.alloc (h ∷ [])) ∷ Γ) G)
        → Seq K 𝓛 (‵ (Loose.own_val d vs) ∷ Γ) G
    loose_opens t d vs next =
        fsplit t $ fpick t (λ parts. fsplit t $ feq_l t (λ whole. fsplit t $ feq_l t (λ address. fsplit t $
        handle_tells allocator t d.alloc parts.1.0 (λ h is_h good. move t (1 ∷ []) $ drop t $ move t (1 ∷ []) $
        in_a_block t d.at (λ p. box_owns (g.dealloc_token d.alloc) R p d.value) (fst∗ 𝓤 (never 𝓤) (sem 𝓛 (g.dealloc_token d.alloc (bare (lone R.mir)) null_ptr))) (λ b o here.
        let with_handle = subst (λ (us : List Val). vs ≡ vstruct (of_list (parts.0 ++ (us ++ []))) ∷ []) is_h whole in
        let with_address = subst (λ (us : List Val). vs ≡ vstruct (of_list (us ++ (h ∷ []))) ∷ []) address with_handle in
        next b o h here (subst (λ (p : Ptr). vs ≡ vstruct (of_list (ptr_val p ∷ h ∷ [])) ∷ []) here with_address) good)))))

    -- and back
    pub loose_closes : K → (b o : ℕ) (h : Val) (a : Z.Denot) (x : R.Denot)
        → Step K 𝓛 (‵ (Loose.own_val (record { at = block_ptr b o; alloc = a; value = x }) (beside b o h ∷ [])) ∷ Γ) G (‵ (box_owns (g.dealloc_token a) R (block_ptr b o) x) ∷ ‵ (Z.own_val a (h ∷ [])) ∷ Γ) G
    loose_closes t b o h a x = step (λ next.
        nothing t $ move t (2 ∷ 0 ∷ []) $ fjoin t $ feq_i t (List Val) (vptr b o ∷ []) (vptr b o ∷ []) refl $ fjoin t $
        feq_i t (List Val) (beside b o h ∷ []) (beside b o h ∷ []) refl $ fjoin t $
        fpack t (Valss (RawPtr ∷ Z ∷ [])) (within (shape (loose.the_type R Z g)) (block_ptr b o, (a, tt)) (beside b o h ∷ [])) (vptr b o ∷ [], (h ∷ [], tt)) $ fjoin t $ next)

-- a kind of handle: its struct, what it holds, and a handle of its three parts
pub record Kind : Type 2 where
  pub struct : Owning
  pub R : RattleType
  pub parts : struct.D → Ptr × Option R.Denot × Global
  pub make : Ptr → Option R.Denot → Global → struct.D
  pub made : (p : Ptr) (o : Option R.Denot) (a : Global) → parts (make p o a) ≡ (p, o, a)

-- a handle is its address
abbrev pub alone : ℕ → ℕ → Val
alone b o = vstruct (vcons (vptr b o) vnil)

module _ (K : Kind) where
  abbrev pub the_type : Owning
  the_type = record {
    name = K.struct.name;
    args = [];
    types = [];
    parts = RawPtr-field ∷ [];
    D = K.struct.D;
    as_values = λ d. ((K.parts d).0, tt);
    coded = K.struct.coded;
    heap = λ d. IfHeld (K.parts d).1 (box_owns (ghosts.dealloc_token (K.parts d).2) K.R (K.parts d).0);
    exit = λ k. hidden (under (λ d. ((K.parts d).0, tt)) (exits_of k (RawPtr ∷ [])));
    shr_at = K.struct.shr_at;
  }

  abbrev pub Handle : RattleType
  Handle = row the_type

  -- the handle with another value at its address
  abbrev pub with_value : K.struct.D → K.R.Denot → K.struct.D
  with_value d x = K.make (K.parts d).0 (Some x) (K.parts d).2

  abbrev owned : (Ptr × Option K.R.Denot × Global) → List Val → Fml
  owned s vs = fsep ((Struct (shape the_type)).own_val (s.0, tt) vs) (IfHeld s.1 (box_owns (ghosts.dealloc_token s.2) K.R s.0))

  module _ {M : Type 1} {𝓤 : Ura M} {𝓛 : Logic 𝓤} {C : Type 0} {Γ : List (Item 𝓤)} {G : Goal 𝓤 𝓛.H} where
    -- what is at an address, if something is held there, is what a handle with that address owns
    pub handle_closes : C → (p : Ptr) (m : Option K.R.Denot) (a : Global)
        → Step C 𝓛 (‵ (Handle.own_val (K.make p m a) (vstruct (vcons (ptr_val p) vnil) ∷ [])) ∷ Γ) G (‵ (IfHeld m (box_owns (ghosts.dealloc_token a) K.R p)) ∷ Γ) G
    handle_closes t p m a = step (λ next. let word : Val = vstruct (vcons (ptr_val p) vnil) in
        nothing t $ feq_i t (List Val) (ptr_val p ∷ []) (ptr_val p ∷ []) refl $ fjoin t $ feq_i t (List Val) (word ∷ []) (word ∷ []) refl $ fjoin t $
        fpack t (Valss (RawPtr ∷ [])) (within (shape the_type) (p, tt) (word ∷ [])) (ptr_val p ∷ [], tt) $ fjoin t $
        rewrite t 0 (λ (s : Ptr × Option K.R.Denot × Global). ‵ (owned s (word ∷ []))) (sym (K.made p m a)) refl $ next)

    -- what a handle that holds something owns is what is at its address
    pub handle_opens : C → (d : K.struct.D) (x : K.R.Denot) (vs : List Val) → (K.parts d).1 ≡ Some x
        → ((b o : ℕ) → (K.parts d).0 ≡ block_ptr b o → vs ≡ alone b o ∷ [] → Seq C 𝓛 (‵ (box_owns (ghosts.dealloc_token (K.parts d).2) K.R (block_ptr b o) x) ∷ Γ) G)
        → Seq C 𝓛 (‵ (Handle.own_val d vs) ∷ Γ) G
    handle_opens t d x vs holds next = let at = (K.parts d).0 in let token = ghosts.dealloc_token (K.parts d).2 in
        fsplit t $ fpick t (λ parts. fsplit t $ feq_l t (λ whole. fsplit t $ feq_l t (λ address. drop t $
        rewrite t 0 (λ (m : Option K.R.Denot). ‵ (IfHeld m (box_owns token K.R at))) holds refl $
        in_a_block t at (λ p. box_owns token K.R p x) (fst∗ 𝓤 (never 𝓤) (sem 𝓛 (token (bare (lone K.R.mir)) null_ptr))) (λ b o here.
        let with_address = subst (λ (us : List Val). vs ≡ vstruct (of_list (us ++ [])) ∷ []) address whole in
        next b o here (subst (λ (p : Ptr). vs ≡ vstruct (of_list (ptr_val p ∷ [])) ∷ []) here with_address)))))

abbrev pub of_table : Kind
of_table = record { struct = table_handle.the_type; R = table.the_row; parts = λ d. (d.at, d.held, d.heap); make = λ p o a. record { at = p; held = o; heap = a }; made = λ p o a. refl }

abbrev pub of_replica : Kind
of_replica = record { struct = replica_handle.the_type; R = replica.the_row; parts = λ d. (d.at, d.held, d.heap); make = λ p o a. record { at = p; held = o; heap = a }; made = λ p o a. refl }

pub still_quiet : {D X : Type 0} (to : D → X) (e : Exit X) → Quiet e → Quiet (hidden (under to e))
still_quiet to unchanged quiet = λ x w. tt
still_quiet to (Exit.leaves L l S s r₀) quiet = λ d. quiet (to d)

pub at_address : (R : RattleType) → IsSend R → (p : Ptr) (x : R.Denot) → Keyless (lies_at R full_share p x)
at_address R may (block_ptr b o) x = part_keyless R may full_share x b o
at_address R may null_ptr x = tt

pub if_held : {X : Type 0} (o : Option X) (F : X → Fml) → ((x : X) → Keyless (F x)) → Keyless (IfHeld o F)
if_held None F each = tt
if_held (Some x) F each = each x

pub sent : (K : Kind) → IsSend K.R → IsSend (Handle K)
sent K may = let T = the_type K in let fields_may : IsSend RawPtr = search sendable in
    owning_send T (fields_may, tt) (λ d. let s = K.parts d in if_held s.1 _ (λ x. (at_address K.R may s.0 x, frees.frees s.2 (bare (lone K.R.mir)) s.0)))
    (λ k. still_quiet (to T) (exits_of k (fields T)) ((struct_send (shape T) (fields_may, tt)).leaving k))
