-- Each call's line says that call, and a line that says a call is that call's line.
use Rattle.std.proofs.Common.{◌≡◌, ◌≢◌, ℕ, ◌+◌, ◌^◌, ◌≤◌, Bool, true, false, List, [], ◌∷◌, ◌++◌, length, length-append, get_or, Option, Some, None, decimal, codes, refl, sym, ap, ◌∙◌, subst, arith, lit≤, option_map}
use Rattle.pid_types.specs.declared.call.Call.{Call}
use Rattle.pid_types.specs.declared.call.Call.TheVariants.{Fork, GetPid, NsPid, Exec, Exit, Wait, GetPpid, SetSid, MakeControl, RemoveControl, SetLimit, Move, Count, GetPgid, GetSid, Next, Join, SetSubreaper, SetPgid}
use Rattle.pid_script.specs.declared.line.Line.TheVariants as says
use Rattle.pid_script.specs.Lines.{line_of, Fits, IsLineOf, Says}
use Rattle.pid_script.specs.Reading.{cut, named, one, process_of, fork_of, fork_new_of, commands, command_of, call_read, call_or_bad, parsed}
use Rattle.pid_script.proofs.Cuts.{cut-Some, option_map_some}
use Rattle.pid_script.proofs.Numbers.{numerals, number_below-decimal, number_below-None, none-some, option_and_then_some, get_or-append-add, not_in_digits, digits_decimal}
use Rattle.pid_script.proofs.Words.{◌◂◌, Reads, Rows, named-says, either, both, behind, process, control, number, signed, lacks_decimal, lacks_signed, lacks_kind, kinds, switch, which, limit, word_of_switch, text_of_which, text_of_limit, Which, Any, Pid, OwnGroup, Group}

-- what the words behind a command are read as is the call that is written so, which is no long line
abbrev Spells : List ℕ → (List ℕ → Option Call) → Type 0
Spells command read = (words : List ℕ) (c : Call) → read words ≡ Some c → IsLineOf (command ++ 32 ∷ words) c × (length (command ++ 32 ∷ words) ≤ 200)

module _ {A : Type 0} {read : List ℕ → Option A} {write : A → List ℕ} {FitsHere : A → Type 0} {most : ℕ} (reads : Reads read write FitsHere most) where
  row : (command : List ℕ) (call : A → Call) → length command + most ≤ 199
      → ((x : A) → FitsHere x → command ++ 32 ∷ write x ≡ line_of (call x)) → ((x : A) → FitsHere x → Fits (call x)) → Spells command (one read call)
  row command call few line fits words c is =
      option_map_some call (read words) c is (λ x here same.
      let a = reads.says words x here in
      subst (λ c. IsLineOf (command ++ 32 ∷ words) c × (length (command ++ 32 ∷ words) ≤ 200)) same (
        record { written = ap (λ w. command ++ 32 ∷ w) a.0 ∙ line x a.1; fits = fits x a.1 },
        omega (arith, few, (reads.told x a.1).1, ap length a.0, length-append command (32 ∷ words)),
      ))

  tells : (call : A → Call) (x : A) → FitsHere x → call_or_bad (one read call (write x)) ≡ says.Call (call x)
  tells call x fits = ap (λ o. call_or_bad (option_map call o)) (reads.told x fits).0

-- a number has no space behind it
no_number : (n : ℕ) (rest : List ℕ) → process_of (decimal n ++ 32 ∷ rest) ≡ None
no_number n rest = number_below-None (2 ^ 32) (decimal n ++ 32 ∷ rest) (λ m below is.
    not_in_digits numerals (decimal m) 32 (digits_decimal numerals m (omega arith)) (λ range. absurd (omega (arith, range)))
    (length (decimal n) + 0) (omega (arith, ap length is, length-append (decimal n) (32 ∷ rest)))
    (ap (λ w. get_or w (length (decimal n) + 0) 0) is ∙ get_or-append-add (decimal n) (32 ∷ rest) 0 0))

-- the word that a fork into a new namespace ends with
new : Reads (named ((codes "new", true) ∷ [])) (λ on. codes "new") (λ on. on ≡ true) 3
new = record {
  told = λ on is. (ap Some (sym is), lit≤ tt);
  says = named-says (λ w on. (w ≡ codes "new") × (on ≡ true)) ((codes "new", true) ∷ []) ((refl, refl) ◂ tt);
}

fork_spells : Spells (codes "fork") fork_of
unfolding fork_of fork_new_of line_of
fork_spells words c is =
    either (one process_of (λ caller. Fork caller false) words) _ c is (row process (codes "fork") (λ caller. Fork caller false) (lit≤ tt) (λ n h. refl) (λ n h. h) words c)
    (row (behind new) (codes "fork") (λ p. Fork p.0 p.1) (lit≤ tt) (λ p h. ap (λ on. line_of (Fork p.0 on)) (sym h.1)) (λ p h. subst (λ on. Fits (Fork p.0 on)) (sym h.1) h.0) words c)

-- words that do not end so are no fork into a new namespace
pub not_new : (words : List ℕ) → ((front : List ℕ) → words ≢ front ++ codes " new") → fork_new_of words ≡ None
unfolding fork_new_of
not_new words never =
    elim (fork_new_of words) as (λ o. fork_new_of words ≡ o → o ≡ None) [
      | None ↦ λ is. refl
      | Some c ↦ λ is. option_map_some _ _ c is (λ p here same. absurd (never (decimal p.0) ((behind new).says words p here).0))
    ] refl

wait_line : (caller : ℕ) (which : Which) → codes "wait" ++ 32 ∷ (decimal caller ++ 32 ∷ text_of_which which) ≡ line_of (Wait caller which)
unfolding line_of
wait_line caller Any = refl
wait_line caller OwnGroup = refl
wait_line caller (Pid number) = refl
wait_line caller (Group number) = refl

limit_line : (id : ℕ) (most : Option ℕ) → codes "limit" ++ 32 ∷ (decimal id ++ 32 ∷ text_of_limit most) ≡ line_of (SetLimit id most)
unfolding line_of
limit_line id None = refl
limit_line id (Some most) = refl

subreaper_line : (caller : ℕ) (on : Bool) → codes "subreaper" ++ 32 ∷ (decimal caller ++ 32 ∷ word_of_switch on) ≡ line_of (SetSubreaper caller on)
unfolding line_of
subreaper_line caller true = refl
subreaper_line caller false = refl

-- the table
spells : Rows Spells commands
unfolding line_of
spells =
    fork_spells
    ◂ row process (codes "exec") Exec (lit≤ tt) (λ n h. refl) (λ n h. h)
    ◂ row (behind (number (2 ^ 8) (lit≤ tt))) (codes "exit") (λ p. Exit p.0 p.1) (lit≤ tt) (λ p h. refl) (λ p h. h)
    ◂ row (behind which) (codes "wait") (λ p. Wait p.0 p.1) (lit≤ tt) (λ p h. wait_line p.0 p.1) (λ p h. h)
    ◂ row (behind (both signed lacks_signed signed)) (codes "setpgid") (λ p. SetPgid p.0 p.1.0 p.1.1) (lit≤ tt) (λ p h. refl) (λ p h. (h.0, h.1.0, h.1.1))
    ◂ row process (codes "setsid") SetSid (lit≤ tt) (λ n h. refl) (λ n h. h)
    ◂ row process (codes "getpid") GetPid (lit≤ tt) (λ n h. refl) (λ n h. h)
    ◂ row process (codes "getppid") GetPpid (lit≤ tt) (λ n h. refl) (λ n h. h)
    ◂ row (behind process) (codes "getpgid") (λ p. GetPgid p.0 p.1) (lit≤ tt) (λ p h. refl) (λ p h. h)
    ◂ row (behind process) (codes "getsid") (λ p. GetSid p.0 p.1) (lit≤ tt) (λ p h. refl) (λ p h. h)
    ◂ row (behind process) (codes "nspid") (λ p. NsPid p.0 p.1) (lit≤ tt) (λ p h. refl) (λ p h. h)
    ◂ row (behind (both kinds lacks_kind process)) (codes "next") (λ p. Next p.0 p.1.0 p.1.1) (lit≤ tt) (λ p h. refl) (λ p h. (h.0, h.1.1))
    ◂ row control (codes "mk") MakeControl (lit≤ tt) (λ n h. refl) (λ n h. h)
    ◂ row control (codes "rm") RemoveControl (lit≤ tt) (λ n h. refl) (λ n h. h)
    ◂ row (both control lacks_decimal limit) (codes "limit") (λ p. SetLimit p.0 p.1) (lit≤ tt) (λ p h. limit_line p.0 p.1) (λ p h. h)
    ◂ row (behind control) (codes "move") (λ p. Move p.0 p.1) (lit≤ tt) (λ p h. refl) (λ p h. h)
    ◂ row control (codes "count") Count (lit≤ tt) (λ n h. refl) (λ n h. h)
    ◂ row (behind process) (codes "join") (λ p. Join p.0 p.1) (lit≤ tt) (λ p h. refl) (λ p h. h)
    ◂ row (behind switch) (codes "subreaper") (λ p. SetSubreaper p.0 p.1) (lit≤ tt) (λ p h. subreaper_line p.0 p.1) (λ p h. h.0)
    ◂ tt

-- each call's line says that call
pub parsed-line_of : (c : Call) → Fits c → parsed (line_of c) ≡ says.Call c
unfolding line_of command_of fork_of fork_new_of
parsed-line_of (Fork caller false) fits = rw (number_below-decimal (2 ^ 32) caller fits (omega arith))
parsed-line_of (Fork caller true) fits = rw (no_number caller (codes "new")) (tells (behind new) (λ p. Fork p.0 p.1) (caller, true) (fits, refl))
parsed-line_of (Exec caller) fits = tells process Exec caller fits
parsed-line_of (Exit caller status) fits = tells (behind (number (2 ^ 8) (lit≤ tt))) (λ p. Exit p.0 p.1) (caller, status) fits
parsed-line_of (Wait caller some) fits = ap parsed (sym (wait_line caller some)) ∙ tells (behind which) (λ p. Wait p.0 p.1) (caller, some) fits
parsed-line_of (SetPgid caller pid pgid) fits =
    tells (behind (both signed lacks_signed signed)) (λ p. SetPgid p.0 p.1.0 p.1.1) (caller, (pid, pgid)) (fits.0, (fits.1, fits.2))
parsed-line_of (SetSid caller) fits = tells process SetSid caller fits
parsed-line_of (GetPid caller) fits = tells process GetPid caller fits
parsed-line_of (GetPpid caller) fits = tells process GetPpid caller fits
parsed-line_of (GetPgid caller pid) fits = tells (behind process) (λ p. GetPgid p.0 p.1) (caller, pid) fits
parsed-line_of (GetSid caller pid) fits = tells (behind process) (λ p. GetSid p.0 p.1) (caller, pid) fits
parsed-line_of (NsPid caller target) fits = tells (behind process) (λ p. NsPid p.0 p.1) (caller, target) fits
parsed-line_of (Next caller kind from) fits =
    tells (behind (both kinds lacks_kind process)) (λ p. Next p.0 p.1.0 p.1.1) (caller, (kind, from)) (fits.0, (tt, fits.1))
parsed-line_of (MakeControl parent) fits = tells control MakeControl parent fits
parsed-line_of (RemoveControl id) fits = tells control RemoveControl id fits
parsed-line_of (SetLimit id most) fits = ap parsed (sym (limit_line id most)) ∙ tells (both control lacks_decimal limit) (λ p. SetLimit p.0 p.1) (id, most) fits
parsed-line_of (Move task id) fits = tells (behind control) (λ p. Move p.0 p.1) (task, id) fits
parsed-line_of (Count id) fits = tells control Count id fits
parsed-line_of (Join caller target) fits = tells (behind process) (λ p. Join p.0 p.1) (caller, target) fits
parsed-line_of (SetSubreaper caller on) fits = ap parsed (sym (subreaper_line caller on)) ∙ tells (behind switch) (λ p. SetSubreaper p.0 p.1) (caller, on) (fits, tt)

says_call : (o : Option Call) (c : Call) → call_or_bad o ≡ says.Call c → o ≡ Some c
says_call None c is = cc
says_call (Some d) c is = ap Some (cc)

-- a line that says a call is that call's line, and not long
pub line_of-parsed : (bytes : List ℕ) (c : Call) → parsed bytes ≡ says.Call c → IsLineOf bytes c × (length bytes ≤ 200)
unfolding command_of
line_of-parsed [] c is = absurd (cc)
line_of-parsed (b ∷ bs) c is =
    option_and_then_some _ (cut 32 (b ∷ bs)) c (says_call _ c is) (λ p cuts command.
    option_and_then_some _ (named commands p.0) c command (λ read row here.
    subst (λ bytes. IsLineOf bytes c × (length bytes ≤ 200)) (sym (cut-Some 32 (b ∷ bs) p cuts)) (named-says Spells commands spells p.0 read row p.1 c here)))

says_at_head : (b : ℕ) (bs : List ℕ) (o : Option Call) → call_read (b ∷ bs) ≡ o → Says (call_or_bad o) (b ∷ bs)
says_at_head b bs None none = (
  λ empty. absurd (cc),
  λ c line. none-some c (sym none ∙ says_call _ c (ap parsed line.written ∙ parsed-line_of c line.fits)),
)
says_at_head b bs (Some c) some = (line_of-parsed (b ∷ bs) c (ap call_or_bad some)).0

-- what a line says is what the table says of it
pub Says-parsed : (bytes : List ℕ) → Says (parsed bytes) bytes
Says-parsed [] = refl
Says-parsed (b ∷ bs) = says_at_head b bs (call_read (b ∷ bs)) refl

pub ruleset tables = (Says-parsed, parsed-line_of)
