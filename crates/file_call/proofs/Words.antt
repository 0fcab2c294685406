-- The words of the command line, as the call for files reads them.
use Rattle.std.proofs.Common.{◌≡◌, ℕ, ◌+◌, Bool, true, false, not, ◌&&◌, ◌||◌, ◌≤◌, List, [], ◌∷◌, length, nat_lt, nat_le, Ok, Err, refl, sym, ap, subst, ◌∙◌, arith}
use Rattle.std.specs.Prelude.{codes, IsTrue, Result, if◌then◌else◌}
use Rattle.std.specs.Option.{option_map_or}
use Rattle.std.specs.List.{list_any}
use Rattle.std.specs.Str.{bytes_eq}
use Rattle.std.proofs.lemmas.Bool.{false≢true, ltb-true, leb-true}
use Rattle.std.proofs.lemmas.Slice.Eq.{bytes_eq-Decides}
use Rattle.plan_model.specs.Table.{first_that_holds}
use Rattle.plan_model.specs.Text.{Words}
use Rattle.plan_model.specs.PlanLine.{word, number, is_number}
use Rattle.plan_model.specs.Commands.{Command, command_in, command_of, record_plan, show_file, check_file, repair_file, drill, forms, is_record, is_show, is_check, is_repair, is_search, first_name, is_drill, is_drill_number, is_known, drill_limit}
use Rattle.plan_model.specs.declared.top.Top.TheVariants.{File}
use Rattle.dock_calls.specs.Said.{is_usage}

-- the command, or the number of the first of five rows that holds
abbrev decided : Bool → Bool → Bool → Bool → Bool → Command → Result Command ℕ
decided a b c d e command = option_map_or Err (first_that_holds ((a, 1) ∷ (b, 2) ∷ (c, 3) ∷ (d, 4) ∷ (e, 5) ∷ [])) (Ok command)

refused_by : (a b c d e : Bool) (command : Command) (why : ℕ) → decided a b c d e command ≡ Err why → is_usage why ≡ true
refused_by true b c d e command why is = let q : 1 ≡ why = cc in ap is_usage (sym q)
refused_by false true c d e command why is = let q : 2 ≡ why = cc in ap is_usage (sym q)
refused_by false false true d e command why is = let q : 3 ≡ why = cc in ap is_usage (sym q)
refused_by false false false true e command why is = let q : 4 ≡ why = cc in ap is_usage (sym q)
refused_by false false false false true command why is = let q : 5 ≡ why = cc in ap is_usage (sym q)
refused_by false false false false false command why is = absurd cc

asked_by : (a b c d e : Bool) (command asked : Command) → decided a b c d e command ≡ Ok asked → (b ≡ false) × (d ≡ false) × (command ≡ asked)
asked_by true b c d e command asked is = absurd cc
asked_by false true c d e command asked is = absurd cc
asked_by false false true d e command asked is = absurd cc
asked_by false false false true e command asked is = absurd cc
asked_by false false false false true command asked is = absurd cc
asked_by false false false false false command asked is = (refl, refl, cc)

-- what holds of the repair that the words ask for holds of each that they are said to ask for
pub asked_repair : (words : Words) (P : Bool → List ℕ → List ℕ → Type 0) (s t : Bool) (a c b d : List ℕ) → command_in File words ≡ Ok (repair_file s a b) → command_in File words ≡ Ok (repair_file t c d) → P s a b → P t c d
asked_repair words P s t a c b d one other holds =
    let p : s ≡ t = cc (one, other) in
    let q : a ≡ c = cc (one, other) in
    let r : b ≡ d = cc (one, other) in
    subst (λ v. P v c d) p (subst (λ v. P s v d) q (subst (λ v. P s a v) r holds))

pub same_number : (words : Words) (a b : ℕ) → command_in File words ≡ Ok (drill a) → command_in File words ≡ Ok (drill b) → a ≡ b
same_number words a b one other = cc (one, other)

-- words that are refused break a usage that has a number
pub usage_known : (words : Words) (why : ℕ) → command_in File words ≡ Err why → IsTrue (is_usage why)
unfolding command_in
usage_known words why is = refused_by _ _ _ _ _ (command_of words) why is

records : (r s t u search : Bool) (first second from to plan out : List ℕ) (n : ℕ)
    → (if r then record_plan first second else if s then show_file first else if t then check_file first else if u then repair_file search from to else drill n) ≡ record_plan plan out
    → r ≡ true
records true s t u search first second from to plan out n is = refl
records false true t u search first second from to plan out n is = absurd cc
records false false true u search first second from to plan out n is = absurd cc
records false false false true search first second from to plan out n is = absurd cc
records false false false false search first second from to plan out n is = absurd cc

not_known : (words : Words) → is_record words ≡ true → is_known File words ≡ false
not_known words is =
    let P : List ℕ → Bool = λ w. list_any (λ form. bytes_eq w form.0) (forms File) in
    let q : word 0 words ≡ codes "record" = (bytes_eq-Decides (word 0 words) (codes "record")).0 is in
    ap P q

-- the call for files isn't asked to record
pub not_record : (words : Words) (plan out : List ℕ) → command_in File words ≡ Ok (record_plan plan out) → ⊥
unfolding command_in
not_record words plan out is =
    let k = asked_by _ _ _ _ _ (command_of words) (record_plan plan out) is in
    let r = records (is_record words) (is_show words) (is_check words) (is_repair words) (is_search words) (word 1 words) (word 2 words) (word (first_name words) words) (word (first_name words + 1) words) plan out (number (word 1 words)) k.2 in
    false≢true (sym k.0 ∙ ap not (not_known words r))

-- ---- the number of a drill

drills : (r s t u search : Bool) (first second from to : List ℕ) (n m : ℕ)
    → (if r then record_plan first second else if s then show_file first else if t then check_file first else if u then repair_file search from to else drill n) ≡ drill m
    → (s ≡ false) × (t ≡ false) × (u ≡ false) × (n ≡ m)
drills true s t u search first second from to n m is = absurd cc
drills false true t u search first second from to n m is = absurd cc
drills false false true u search first second from to n m is = absurd cc
drills false false false true search first second from to n m is = absurd cc
drills false false false false search first second from to n m is = (refl, refl, refl, cc)

the_last : (s t u d : Bool) → not (s || (t || (u || (u || (d || false))))) ≡ false → s ≡ false → t ≡ false → u ≡ false → d ≡ true
the_last true t u d known a b c = absurd cc
the_last false true u d known a b c = absurd cc
the_last false false true d known a b c = absurd cc
the_last false false false true known a b c = refl
the_last false false false false known a b c = absurd cc

must_be : (d b : Bool) → d ≡ true → (d && not b) ≡ false → b ≡ true
must_be true true is none = refl
must_be true false is none = absurd cc
must_be false b is none = absurd cc

first_of : (a b : Bool) → (a && b) ≡ true → a ≡ true
first_of true b is = refl
first_of false b is = absurd cc

second_of : (a b : Bool) → (a && b) ≡ true → b ≡ true
second_of true b is = is
second_of false b is = absurd cc

-- a drill's number is within its limits
pub drill_within : (words : Words) (n : ℕ) → command_in File words ≡ Ok (drill n) → (1 ≤ n) × (n ≤ 1_000_000)
unfolding command_in is_number
drill_within words n is =
    let k = asked_by _ _ _ _ _ (command_of words) (drill n) is in
    let text = word 1 words in
    let d = drills (is_record words) (is_show words) (is_check words) (is_repair words) (is_search words) (word 1 words) (word 2 words) (word (first_name words) words) (word (first_name words + 1) words) (number text) n k.2 in
    let last : is_drill words ≡ true = the_last (is_show words) (is_check words) (is_repair words) (is_drill words) k.0 d.0 d.1 d.2 in
    let numbered : is_drill_number text ≡ true = must_be (is_drill words) (is_drill_number text) last k.1 in
    let is_it : is_number drill_limit text ≡ true = second_of (nat_lt (length text) 8) (is_number drill_limit text) numbered in
    let high : nat_le (number text) drill_limit ≡ true = second_of _ (nat_le (number text) drill_limit) is_it in
    let low : nat_lt 0 (number text) ≡ true = second_of _ (nat_lt 0 (number text)) (first_of _ (nat_le (number text) drill_limit) is_it) in
    let above = ltb-true 0 (number text) low in
    let below = leb-true (number text) drill_limit high in
    (omega (arith, above, d.3), omega (arith, below, d.3))
