-- A search for a boundary, piece by piece.
use Rattle.std.proofs.Common.{◌≡◌, ℕ, zero, suc, ◌+◌, ◌-◌, ◌<◌, ◌≤◌, Bool, true, false, List, [], ◌∷◌, ◌++◌, length, take, drop, drop_of_length-le, Option, Some, None, refl, sym, ap, ◌∙◌, subst, append_assoc, arith, inl, inr, ◌⊎◌}
use Rattle.std.specs.Prelude.{IsTrue}
use Rattle.std.proofs.lemmas.Bool.{cases_Bool}
use Rattle.std.proofs.lemmas.List.{append-nil, length-append, length-take, length-drop, take-append-drop, take-append-le, take_all}
use Rattle.std.specs.Io.KnownBytes.{Consumes, Keeps}
use Rattle.std.proofs.KnownBytes.{Consumes-nil, Consumes-trans, Consumes-kept}
use Rattle.xdf_model.specs.Varlen.{varlen_at}
use Rattle.chunk_grammar.specs.Chunk.{Context, boundary_bytes}
use Rattle.chunk_grammar.specs.Standing.{Standing, whole, torn, bad, standing_at, IsWhole}
use Rattle.chunk_laws.proofs.MoreBytes.{at_more}
use Rattle.reading_model.specs.Reading.{Reading, going, done, is_done}
use Rattle.piece_reader.specs.Steps.{gained}
use Rattle.file_model.specs.declared.end.FileEnd.{FileEnd}
use Rattle.file_model.specs.Reader.{FileState}
use Rattle.file_reader.specs.FileInlet.{FileInlet, without_front}
use Rattle.file_reader.specs.Kept.{with_more}
use Rattle.boundary_search.specs.Parts.{EndsWithFirst, FindsBoundary, HasBoundary, HasNoBoundary, IsBad}
use Rattle.boundary_search.specs.Salvage.{Goes, IsBroken, IsGonePast, IsPastLimit, counted}
use Rattle.boundary_search.specs.Searching.{NoneStands}
use Rattle.boundary_search.proofs.Found.{HasNoneGone, HasNoneBefore, boundary_more, found, none_at_all, none_gone, none_gone_on}

-- ---- fronts of lists

pub take_split : (n : ℕ) (a b : List ℕ) → take n (a ++ b) ≡ take n a ++ take (n - length a) b
take_split zero a b = let none : 0 - length a ≡ 0 = omega arith in sym (ap (λ (m : ℕ). take m b) none)
take_split (suc n) [] b = let same : suc n ≡ suc n - length {A = ℕ} [] = omega arith in ap (λ (m : ℕ). take m b) same
take_split (suc n) (x ∷ a) b =
    let same : n - length a ≡ suc n - length (x ∷ a) = omega arith in
    ap (λ (l : List ℕ). x ∷ l) (take_split n a b) ∙ ap (λ (m : ℕ). x ∷ take n a ++ take m b) same

pub empty_of : (b : List ℕ) → length b ≡ 0 → b ≡ []
empty_of [] e = refl
empty_of (x ∷ b) e = absurd (omega arith)

-- ---- what is bad stays bad

pub bad_is_none : (x : Standing) → IsBad x → IsWhole x → ⊥
bad_is_none (whole c used) b w = b
bad_is_none torn b w = b
bad_is_none (bad place reason) b w = w

bad_is_not_torn : (x : Standing) → IsBad x → x ≡ torn → ⊥
bad_is_not_torn (whole c used) b e = b
bad_is_not_torn torn b e = b
bad_is_not_torn (bad place reason) b e = absurd cc

pub bad_more : (ctx : Context) (b more : List ℕ) → IsBad (standing_at ctx b) → IsBad (standing_at ctx (b ++ more))
bad_more ctx b more h = subst IsBad (sym (at_more ctx b more (bad_is_not_torn (standing_at ctx b) h))) h

-- of bytes of which the first are bad, as many as count are bad, and all are
bad_counted : (ctx : Context) (n : ℕ) (a b : List ℕ) → IsBad (standing_at ctx (take n a)) → IsBad (standing_at ctx (take n (a ++ b)))
bad_counted ctx n a b h = subst (λ (l : List ℕ). IsBad (standing_at ctx l)) (sym (take_split n a b)) (bad_more ctx (take n a) (take (n - length a) b) h)

pub bad_all : (ctx : Context) (n : ℕ) (b : List ℕ) → IsBad (standing_at ctx (take n b)) → IsBad (standing_at ctx b)
bad_all ctx n b h = subst (λ (l : List ℕ). IsBad (standing_at ctx l)) (take-append-drop n b) (bad_more ctx (take n b) (drop n b) h)

at_empty : (ctx : Context) → standing_at ctx [] ≡ torn
unfolding standing_at varlen_at
at_empty ctx = refl

pub bad_some : (ctx : Context) (b : List ℕ) → IsBad (standing_at ctx b) → 0 < length b
bad_some ctx [] h = absurd (bad_is_not_torn (standing_at ctx []) h (at_empty ctx))
bad_some ctx (x ∷ b) h = omega arith

done_gained : (r : Reading FileState FileEnd) (bytes : List ℕ) → is_done r ≡ true → is_done (gained bytes r) ≡ true
done_gained (done e) bytes h = refl
done_gained (going s rest room) bytes h = absurd cc

-- ---- what stays true of a search

pub record IsSearching (before left : Option (List ℕ)) (began ended : Bool) (old now : FileInlet) : Type 0 where
  pub gone : List ℕ
  pub goes : Goes before left began old now gone
  pub none : HasNoneGone gone now.ahead
  pub context : now.context ≡ old.context
  pub over : is_done now.reading ≡ true
  pub fresh : now.last ≡ []
  pub low : now.place ≤ now.byte_limit
  pub within : IsTrue ended → now.place + length now.ahead ≤ now.byte_limit
  pub later : IsTrue began → IsTrue ended

pub begins : (a : Option (List ℕ)) (e : Bool) (x : FileInlet) → NoneStands e x → IsSearching a a e e x x
begins a e x h = record {
  gone = [];
  goes = record { taken = []; lost = Consumes-nil a; none = λ t. refl; all = append-nil x.ahead; place = omega arith; limit = refl };
  none = none_gone x.ahead;
  context = refl;
  over = h.over;
  fresh = h.fresh;
  low = h.low;
  within = λ t. (h.none t).2;
  later = λ t. t;
}

-- where not all bytes count, those that count are no more than the rest of the limit
counted_within : (x : FileInlet) → x.place ≤ x.byte_limit → x.place + length (counted x) ≤ x.byte_limit
counted_within x low = omega (arith, low, length-take (x.byte_limit - x.place) x.ahead)

pub counted_all : (x : FileInlet) → x.place + length x.ahead ≤ x.byte_limit → counted x ≡ x.ahead
counted_all x h = take_all (x.byte_limit - x.place) x.ahead (omega (arith, h))

-- none in a front of what is there
none_before_less : (gone a b : List ℕ) (n : ℕ) → HasNoneBefore (gone ++ (a ++ b)) n → HasNoneBefore (gone ++ a) n
none_before_less gone a b n h place lt is = h place lt (subst (λ (l : List ℕ). HasBoundary l place) (append_assoc gone a b) (boundary_more (gone ++ a) b place is))

module _ (a c : Option (List ℕ)) (began ended : Bool) (old now : FileInlet) (k : IsSearching a c began ended old now) (start : NoneStands began old) where
  -- all that was taken, as the search stands
  abbrev room : ℕ
  room = old.byte_limit - old.place

  taken_bad : began ≡ false → IsBad (standing_at old.context (take room (old.ahead ++ k.goes.taken)))
  taken_bad e = bad_counted old.context room old.ahead k.goes.taken (start.bad e)

  none_whole : IsWhole (standing_at old.context (old.ahead ++ k.goes.taken)) → ⊥
  none_whole w = elim (cases_Bool began) [
    | inl t ↦
        let same : old.ahead ++ k.goes.taken ≡ old.ahead = ap (λ (l : List ℕ). old.ahead ++ l) (k.goes.none t) ∙ append-nil old.ahead in
        (start.none t).1 (subst (λ (l : List ℕ). IsWhole (standing_at old.context l)) same w)
    | inr f ↦ bad_is_none (standing_at old.context (old.ahead ++ k.goes.taken)) (bad_all old.context room (old.ahead ++ k.goes.taken) (taken_bad f)) w
  ]

  some_taken : 0 < length (old.ahead ++ k.goes.taken)
  some_taken = elim (cases_Bool began) [
    | inl t ↦ omega (arith, (start.none t).0, length-append old.ahead k.goes.taken)
    | inr f ↦ omega (arith, bad_some old.context (counted old) (start.bad f), length-take room old.ahead, length-append old.ahead k.goes.taken)
  ]

  -- so many of the bytes that count are gone past
  module _ (n : ℕ) (new : FileInlet) (is : new ≡ without_front n now) (few : n ≤ length (counted now)) where
    goes_on : Goes a c began old new (k.gone ++ take n now.ahead)
    goes_on =
        let P : FileInlet → Type 0 = λ x. Goes a c began old x (k.gone ++ take n now.ahead) in
        let long : length (take n now.ahead) ≡ n = omega (arith, few, length-take n now.ahead, length-take (now.byte_limit - now.place) now.ahead) in
        subst P (sym is) (record {
          taken = k.goes.taken;
          lost = k.goes.lost;
          none = k.goes.none;
          all = k.goes.all ∙ ap (λ (l : List ℕ). k.gone ++ l) (sym (take-append-drop n now.ahead)) ∙ sym (append_assoc k.gone (take n now.ahead) (drop n now.ahead));
          place = omega (arith, k.goes.place, long, length-append k.gone (take n now.ahead));
          limit = k.goes.limit;
        })

    parts : old.ahead ++ k.goes.taken ≡ (k.gone ++ take n now.ahead) ++ new.ahead
    parts =
        let P : FileInlet → Type 0 = λ x. old.ahead ++ k.goes.taken ≡ (k.gone ++ take n now.ahead) ++ x.ahead in
        subst P (sym is) (k.goes.all ∙ ap (λ (l : List ℕ). k.gone ++ l) (sym (take-append-drop n now.ahead)) ∙ sym (append_assoc k.gone (take n now.ahead) (drop n now.ahead)))

    gone_past : (began ≡ false → ended ≡ false → EndsWithFirst (k.gone ++ take n now.ahead)) → (IsTrue ended → EndsWithFirst (k.gone ++ take n now.ahead) ⊎ ((new.ahead ≡ []) × HasNoBoundary (k.gone ++ take n now.ahead)))
        → 0 < length (k.gone ++ take n now.ahead) → IsGonePast a c began ended old new
    gone_past sure all some =
        let range : List ℕ = k.gone ++ take n now.ahead in
        let g = goes_on in
        let low : new.place ≤ new.byte_limit = subst (λ (x : FileInlet). x.place ≤ x.byte_limit) (sym is) (omega (arith, few, counted_within now k.low)) in
        let in_room : length range ≤ room = omega (arith, low, g.place, g.limit) in
        let left : room - length range ≡ new.byte_limit - new.place = omega (arith, g.place, g.limit) in
        let front : take room range ≡ range = take_all room range in_room in
        let counts : range ++ counted new ≡ take room (old.ahead ++ k.goes.taken) =
        ap (λ (l : List ℕ). l ++ counted new) (sym front) ∙ ap (λ (m : ℕ). take room range ++ take m new.ahead) (sym left) ∙ sym (take_split room range new.ahead) ∙ ap (take room) (sym parts) in
        record {
          range = range;
          goes = g;
          sure = λ f.
              let first : began ≡ false = elim (cases_Bool began) [ inl t ↦ let wrong : true ≡ false = sym (k.later t) ∙ f in absurd cc | inr f ↦ f ] in
              record { bad = subst (λ (l : List ℕ). IsBad (standing_at old.context l)) (sym counts) (taken_bad first); ends = sure first f };
          all = λ t. record { some = some; none_stands = λ w. none_whole (subst (λ (l : List ℕ). IsWhole (standing_at old.context l)) (sym parts) w); ends = all t };
          context = ap (λ (x : FileInlet). x.context) is ∙ k.context;
          within = low;
          counts = λ t. subst (λ (x : FileInlet). x.place + length x.ahead ≤ x.byte_limit) (sym is) (omega (arith, k.within t, few, length-drop n now.ahead, length-take (now.byte_limit - now.place) now.ahead));
          none = ap (λ (x : FileInlet). x.last) is;
        }

  none_counted : HasNoneBefore (k.gone ++ counted now) (length k.gone)
  none_counted =
      let P : List ℕ → Type 0 = λ l. HasNoneBefore (k.gone ++ l) (length k.gone) in
      none_before_less k.gone (counted now) (drop (now.byte_limit - now.place) now.ahead) (length k.gone) (subst P (sym (take-append-drop (now.byte_limit - now.place) now.ahead)) k.none.none)

  -- a boundary was found
  pub found_range : (i : ℕ) (new : FileInlet) → FindsBoundary (counted now) 0 (Some i) → new ≡ without_front (i + 15 + 1) now → IsGonePast a c began ended old new
  found_range i new h is =
      let fits = h.1.fits in
      let same : take (i + 16) (counted now) ≡ take (i + 15 + 1) now.ahead =
      let n : i + 16 ≡ i + 15 + 1 = omega arith in
      ap (λ (m : ℕ). take m (counted now)) n ∙ sym (take-append-le (i + 15 + 1) (counted now) (drop (now.byte_limit - now.place) now.ahead) (omega (arith, fits))) ∙ ap (take (i + 15 + 1)) (take-append-drop (now.byte_limit - now.place) now.ahead) in
      let first : EndsWithFirst (k.gone ++ take (i + 15 + 1) now.ahead) = subst (λ (l : List ℕ). EndsWithFirst (k.gone ++ l)) same (found k.gone (counted now) i none_counted h) in
      let some : 0 < length (k.gone ++ take (i + 15 + 1) now.ahead) = omega (arith, ap length first.ends, length-append first.front boundary_bytes) in
      gone_past (i + 15 + 1) new is (omega (arith, fits)) (λ f g. first) (λ t. inl first) some

  -- there is none, and nothing follows
  pub all_range : (new : FileInlet) → IsTrue ended → FindsBoundary (counted now) 0 None → new ≡ without_front (length (counted now)) now → IsGonePast a c began ended old new
  all_range new over h is =
      let all : counted now ≡ now.ahead = counted_all now (k.within over) in
      let long : length (counted now) ≡ length now.ahead = ap length all in
      let whole : take (length (counted now)) now.ahead ≡ now.ahead = take_all (length (counted now)) now.ahead (omega (arith, long)) in
      let range : k.gone ++ take (length (counted now)) now.ahead ≡ k.gone ++ now.ahead = ap (λ (l : List ℕ). k.gone ++ l) whole in
      let none : HasNoBoundary (k.gone ++ now.ahead) = none_at_all k.gone now.ahead k.none.none (λ place b. h place (omega arith) (subst (λ (l : List ℕ). HasBoundary l place) (sym all) b)) in
      let behind : new.ahead ≡ [] = ap (λ (x : FileInlet). x.ahead) is ∙ drop_of_length-le now.ahead {i = length (counted now)} (omega (arith, long)) in
      gone_past (length (counted now)) new is (omega arith) (λ f g. let wrong : true ≡ false = sym over ∙ g in absurd cc) (λ t. inr (behind, subst HasNoBoundary (sym range) none))
      (omega (arith, some_taken, ap length range, ap length k.goes.all))

  -- there is none, and more bytes than count
  pub past_limit : FindsBoundary (counted now) 0 None → now.byte_limit < now.place + length now.ahead → IsPastLimit a c began old now
  past_limit h more =
      let first : began ≡ false = elim (cases_Bool began) [ inl t ↦ absurd (omega (arith, more, k.within (k.later t))) | inr f ↦ f ] in
      let in_room : length k.gone ≤ room = omega (arith, k.low, k.goes.place, k.goes.limit) in
      let left : room - length k.gone ≡ now.byte_limit - now.place = omega (arith, k.goes.place, k.goes.limit) in
      let counts : take room (k.gone ++ now.ahead) ≡ k.gone ++ counted now =
      take_split room k.gone now.ahead ∙ ap (λ (l : List ℕ). l ++ take (room - length k.gone) now.ahead) (take_all room k.gone in_room) ∙ ap (λ (m : ℕ). k.gone ++ take m now.ahead) left in
      record {
        gone = k.gone;
        goes = k.goes;
        more = more;
        stuck = inr (
          subst (λ (l : List ℕ). IsBad (standing_at old.context (take room l))) k.goes.all (taken_bad first),
          subst HasNoBoundary (sym counts) (none_at_all k.gone (counted now) none_counted (λ place b. h place (omega arith) b)),
        );
        none = k.fresh;
      }

  -- there is none, and more may come: all but the last fifteen bytes are gone past, and then some are taken
  module _ (mid : FileInlet) (going : ended ≡ false) (h : FindsBoundary (counted now) 0 None) (inside : now.place + length now.ahead ≤ now.byte_limit) (is : mid ≡ without_front (length (counted now) - 15) now) where
    first_here : began ≡ false
    first_here = elim (cases_Bool began) [ inl t ↦ let wrong : true ≡ false = sym (k.later t) ∙ going in absurd cc | inr f ↦ f ]

    pub few_left : (length mid.ahead < 16) × (mid.place + length mid.ahead ≡ now.place + length now.ahead)
    few_left =
        let all : length (counted now) ≡ length now.ahead = ap length (counted_all now inside) in
        let P : FileInlet → Type 0 = λ x. (length x.ahead < 16) × (x.place + length x.ahead ≡ now.place + length now.ahead) in
        subst P (sym is) (omega (arith, all, length-drop (length (counted now) - 15) now.ahead), omega (arith, all, length-drop (length (counted now) - 15) now.ahead))

    goes_mid : Goes a c began old mid (k.gone ++ take (length (counted now) - 15) now.ahead)
    goes_mid = goes_on (length (counted now) - 15) mid is (omega arith)

    pub goes_further : (b : Option (List ℕ)) (bytes : List ℕ) (new : FileInlet) (ended' : Bool) → Consumes c b bytes → new ≡ with_more mid bytes → (IsTrue ended' → bytes ≡ []) → IsSearching a b began ended' old new
    goes_further b bytes new ended' lost same none =
        let P : FileInlet → Type 0 = λ x. IsSearching a b began ended' old x in
        let all : length (counted now) ≡ length now.ahead = ap length (counted_all now inside) in
        let whole : counted now ≡ now.ahead = counted_all now inside in
        let gone : List ℕ = k.gone ++ take (length (counted now) - 15) now.ahead in
        let count : length now.ahead - 15 ≡ length (counted now) - 15 = omega (arith, all) in
        let ahead : mid.ahead ≡ drop (length (counted now) - 15) now.ahead = ap (λ (x : FileInlet). x.ahead) is in
        let free : HasNoBoundary now.ahead = λ place s. h place (omega arith) (subst (λ (l : List ℕ). HasBoundary l place) (sym whole) s) in
        let further : HasNoneGone (k.gone ++ take (length now.ahead - 15) now.ahead) (drop (length now.ahead - 15) now.ahead ++ bytes) = none_gone_on k.gone now.ahead bytes k.none free in
        let moved : HasNoneGone gone (mid.ahead ++ bytes) =
        subst (λ (l : List ℕ). HasNoneGone gone (l ++ bytes)) (sym ahead) (subst (λ (m : ℕ). HasNoneGone (k.gone ++ take m now.ahead) (drop m now.ahead ++ bytes)) count further) in
        let place : mid.place + length mid.ahead ≡ now.place + length now.ahead = few_left.1 in
        let low : mid.place ≤ now.byte_limit = omega (arith, place, inside) in
        let limit : mid.byte_limit ≡ now.byte_limit = ap (λ (x : FileInlet). x.byte_limit) is in
        subst P (sym same) (record {
          gone = gone;
          goes = record {
            taken = goes_mid.taken ++ bytes;
            lost = Consumes-trans a c b goes_mid.taken bytes goes_mid.lost lost;
            none = λ t. let wrong : true ≡ false = sym t ∙ first_here in absurd cc;
            all = sym (append_assoc old.ahead goes_mid.taken bytes) ∙ ap (λ (l : List ℕ). l ++ bytes) goes_mid.all ∙ append_assoc gone mid.ahead bytes;
            place = goes_mid.place;
            limit = goes_mid.limit;
          };
          none = moved;
          context = ap (λ (x : FileInlet). x.context) is ∙ k.context;
          over = done_gained mid.reading bytes (ap (λ (x : FileInlet). is_done x.reading) is ∙ k.over);
          fresh = ap (λ (x : FileInlet). x.last) is;
          low = omega (arith, low, limit);
          within = λ t. omega (arith, ap length (none t), place, inside, limit, length-append mid.ahead bytes);
          later = λ t. let wrong : true ≡ false = sym t ∙ first_here in absurd cc;
        })

    -- or a read fails
    pub broken : (b : Option (List ℕ)) (new : FileInlet) → Keeps c b → new ≡ mid → IsBroken a b began old new
    broken b new kept same =
        let P : FileInlet → Type 0 = λ x. IsBroken a b began old x in
        let limit : mid.byte_limit ≡ now.byte_limit = ap (λ (x : FileInlet). x.byte_limit) is in
        subst P (sym same) (record {
          gone = k.gone ++ take (length (counted now) - 15) now.ahead;
          goes = record { taken = goes_mid.taken; lost = Consumes-kept a c b goes_mid.taken goes_mid.lost kept; none = goes_mid.none; all = goes_mid.all; place = goes_mid.place; limit = goes_mid.limit };
          within = omega (arith, few_left.1, inside, limit);
          none = ap (λ (x : FileInlet). x.last) is;
        })
