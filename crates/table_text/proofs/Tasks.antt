-- The line of a task, up to each of its parts: what does not stand in a text where its reader gives up.
use Rattle.std.proofs.Common.{◌≡◌, inl, ℕ, ◌^◌, ◌≤◌, Bool, false, List, [], ◌∷◌, ◌++◌, length, drop, Option, IfSome, decimal, codes, sym, ◌∙◌, arith, lit<}
use Rattle.pid_types.specs.declared.plain.Name.{Name}
use Rattle.pid_types.specs.declared.plain.Row.{Row}
use Rattle.pid_types.specs.declared.plain.Life.{Life}
use Rattle.pid_types.specs.declared.plain.Life.TheVariants.{Live, Zombie}
use Rattle.pid_types.specs.declared.plain.Ended.TheVariants.{Exited, Killed}
use Rattle.pid_script.specs.Lists.{field, marked, life_text}
use Rattle.table_text.specs.Texts.{name_word, parent_word, places_text, flags_text, task_text_line, rest_line}
use Rattle.table_text.specs.Ranges.{IsWord, IsNameOfWords, IsLifeOfWords}
use Rattle.table_text.specs.Reading.{IsRead, StopsDigits, StopsBehind, Lacks, LacksField, LacksAny, IsHeldName, IsHeldLife, IsHeldRow}
use Rattle.table_text.proofs.Words.{life_read}
use Rattle.table_text.proofs.Lines.{names_flat, places_flat, marks_flat, task_flat, rest_flat, stops_places, stops_line, stops_marks, not_executed, not_marked}
use Rattle.table_text.proofs.Missed.{left_by, field_behind, mark_behind, no_field, no_part}
use Rattle.table_text.proofs.Named.{name_behind, parent_name_behind}

pub words_of_life : (life : Life) → IsHeldLife life → IsLifeOfWords life
words_of_life Live held = tt
words_of_life (Zombie (Exited status)) held = omega (arith, held)
words_of_life (Zombie Killed) held = tt

-- behind a life that is read
life_behind : (text : List ℕ) (a b : ℕ) (p q : Life) (rest : List ℕ) → a ≤ length text → b ≤ length text → IsRead text a b (codes " " ++ life_text p)
    → IsLifeOfWords p → IsHeldLife q → StopsBehind p (drop b text) → StopsDigits rest → drop a text ≡ codes " " ++ (life_text q ++ rest) → drop b text ≡ rest
life_behind text a b p q rest within_a within_b read words held stops stops_rest is =
    (life_read p q (drop b text) rest (left_by text (codes " ") (life_text p) a b _ within_a within_b read is) words (words_of_life q held) stops stops_rest).1

-- the task's name
module _ (text : List ℕ) (r : Row) (held : IsHeldRow r) (x : List ℕ) (a0 : ℕ) (within : a0 ≤ length text) (is : drop a0 text ≡ task_text_line r ++ x) where
  abbrev behind_first : List ℕ
  behind_first =
      codes " parent " ++ (parent_word r.parent ++ (codes " group " ++ (name_word r.group ++ (codes " session " ++ (name_word r.session ++ (places_text r ++ (flags_text r ++ 10 ∷ x)))))))

  at_name : drop a0 text ≡ codes "task " ++ (name_word r.name ++ behind_first)
  at_name = is ∙ task_flat r x ∙ names_flat r (places_text r ++ (flags_text r ++ 10 ∷ x))

  pub no_task_name : LacksAny IsHeldName (λ name. codes "task " ++ name_word name) text a0 → ⊥
  no_task_name lacks = no_part IsHeldName (codes "task ") name_word text a0 r.name behind_first lacks held.name (inl (lit< tt)) at_name

  -- behind the name
  pub at_rest : (a1 : ℕ) (name : Name) → a1 ≤ length text → IsRead text a0 a1 (codes "task " ++ name_word name) → IsNameOfWords name → StopsDigits (drop a1 text)
      → drop a1 text ≡ rest_line r ++ x
  at_rest a1 name within_name read words stops =
      name_behind text (codes "task ") a0 a1 name r.name behind_first within within_name read words held.name stops (inl (lit< tt)) at_name ∙ sym (rest_flat r x)

-- the rest
module _ (text : List ℕ) (r : Row) (held : IsHeldRow r) (x : List ℕ) (a1 : ℕ) (within_name : a1 ≤ length text) (is : drop a1 text ≡ rest_line r ++ x) where
  abbrev behind_life : List ℕ
  behind_life = marked r.executed (codes " executed") ++ (marked r.subreaper (codes " subreaper") ++ 10 ∷ x)

  abbrev behind_children : List ℕ
  behind_children = flags_text r ++ 10 ∷ x

  abbrev behind_session : List ℕ
  behind_session = places_text r ++ behind_children

  abbrev behind_group : List ℕ
  behind_group = codes " session " ++ (name_word r.session ++ behind_session)

  abbrev behind_parent : List ℕ
  behind_parent = codes " group " ++ (name_word r.group ++ behind_group)

  abbrev behind_name : List ℕ
  behind_name = codes " parent " ++ (parent_word r.parent ++ behind_parent)

  at_parent : drop a1 text ≡ behind_name
  at_parent = is ∙ rest_flat r x

  pub no_task_parent : LacksAny (λ p. IfSome p IsHeldName) (λ p. codes " parent " ++ parent_word p) text a1 → ⊥
  no_task_parent lacks = no_part (λ p. IfSome p IsHeldName) (codes " parent ") parent_word text a1 r.parent behind_parent lacks held.parent (inl (lit< tt)) at_parent

  module _ (a2 : ℕ) (parent : Option Name) (within_parent : a2 ≤ length text) (read_parent : IsRead text a1 a2 (codes " parent " ++ parent_word parent))
      (words_parent : IfSome parent IsNameOfWords) (stops_parent : IfSome parent (λ name. StopsDigits (drop a2 text))) where
    at_group : drop a2 text ≡ behind_parent
    at_group = parent_name_behind text a1 a2 parent r.parent behind_parent within_name within_parent read_parent words_parent held.parent stops_parent (inl (lit< tt)) at_parent

    pub no_task_group : LacksAny IsHeldName (λ name. codes " group " ++ name_word name) text a2 → ⊥
    no_task_group lacks = no_part IsHeldName (codes " group ") name_word text a2 r.group behind_group lacks held.group (inl (lit< tt)) at_group

    module _ (a3 : ℕ) (group : Name) (within_group : a3 ≤ length text) (read_group : IsRead text a2 a3 (codes " group " ++ name_word group))
        (words_group : IsNameOfWords group) (stops_group : StopsDigits (drop a3 text)) where
      at_session : drop a3 text ≡ behind_group
      at_session = name_behind text (codes " group ") a2 a3 group r.group behind_group within_parent within_group read_group words_group held.group stops_group (inl (lit< tt)) at_group

      pub no_task_session : LacksAny IsHeldName (λ name. codes " session " ++ name_word name) text a3 → ⊥
      no_task_session lacks = no_part IsHeldName (codes " session ") name_word text a3 r.session behind_session lacks held.session (stops_places r behind_children) at_session

      module _ (a4 : ℕ) (session : Name) (within_session : a4 ≤ length text) (read_session : IsRead text a3 a4 (codes " session " ++ name_word session))
          (words_session : IsNameOfWords session) (stops_session : StopsDigits (drop a4 text)) where
        at_home : drop a4 text ≡ codes " control " ++ (decimal r.home ++ (codes " children " ++ (decimal r.children_space ++ behind_children)))
        at_home = name_behind text (codes " session ") a3 a4 session r.session behind_session within_group within_session read_session words_session held.session stops_session
            (stops_places r behind_children) at_session ∙ places_flat r behind_children

        pub no_task_home : LacksField (2 ^ 64) (codes " control ") text a4 → ⊥
        no_task_home lacks = no_field (2 ^ 64) text (codes " control ") a4 r.home _ lacks held.home (inl (lit< tt)) at_home

        module _ (a5 home : ℕ) (within_home : a5 ≤ length text) (read_home : IsRead text a4 a5 (field (codes " control ") home))
            (word_home : IsWord home) (stops_home : StopsDigits (drop a5 text)) where
          at_children : drop a5 text ≡ codes " children " ++ (decimal r.children_space ++ behind_children)
          at_children = field_behind text (codes " control ") a4 a5 home r.home _ within_session within_home read_home word_home held.home stops_home (inl (lit< tt)) at_home

          pub no_task_children : LacksField (2 ^ 64) (codes " children ") text a5 → ⊥
          no_task_children lacks = no_field (2 ^ 64) text (codes " children ") a5 r.children_space behind_children lacks held.children_space (stops_line r x) at_children

          module _ (a6 children : ℕ) (within_children : a6 ≤ length text) (read_children : IsRead text a5 a6 (field (codes " children ") children))
              (word_children : IsWord children) (stops_children : StopsDigits (drop a6 text)) where
            at_life : drop a6 text ≡ codes " " ++ (life_text r.life ++ behind_life)
            at_life = field_behind text (codes " children ") a5 a6 children r.children_space behind_children within_home within_children read_children word_children held.children_space
                stops_children (stops_line r x) at_children ∙ marks_flat r (10 ∷ x)

            pub no_task_life : LacksAny IsHeldLife (λ life. codes " " ++ life_text life) text a6 → ⊥
            no_task_life lacks = no_part IsHeldLife (codes " ") life_text text a6 r.life behind_life lacks held.life (stops_marks r.executed r.subreaper x) at_life

            module _ (a7 : ℕ) (life : Life) (within_life : a7 ≤ length text) (read_life : IsRead text a6 a7 (codes " " ++ life_text life))
                (words_life : IsLifeOfWords life) (stops_life : StopsBehind life (drop a7 text)) where
              at_executed : drop a7 text ≡ behind_life
              at_executed = life_behind text a6 a7 life r.life behind_life within_children within_life read_life words_life held.life stops_life (stops_marks r.executed r.subreaper x) at_life

              module _ (a8 : ℕ) (executed : Bool) (within_executed : a8 ≤ length text) (read_executed : IsRead text a7 a8 (marked executed (codes " executed")))
                  (no_executed : executed ≡ false → Lacks (codes " executed") text a7) where
                at_subreaper : drop a8 text ≡ marked r.subreaper (codes " subreaper") ++ 10 ∷ x
                at_subreaper = mark_behind text (codes " executed") a7 a8 executed r.executed _ within_life within_executed read_executed no_executed (not_executed r.subreaper x) at_executed

                pub no_task_end : (a9 : ℕ) (subreaper : Bool) → a9 ≤ length text → IsRead text a8 a9 (marked subreaper (codes " subreaper"))
                    → (subreaper ≡ false → Lacks (codes " subreaper") text a8) → Lacks (10 ∷ []) text a9 → ⊥
                no_task_end a9 subreaper within_subreaper read_subreaper no_subreaper lacks =
                    lacks x (mark_behind text (codes " subreaper") a8 a9 subreaper r.subreaper (10 ∷ x) within_executed within_subreaper read_subreaper no_subreaper (λ z. not_marked x _) at_subreaper)
