-- What a salvager tells by the answer of the reader beneath.
use Rattle.std.proofs.Common.{◌≡◌, ℕ, ◌+◌, ◌-◌, ◌≤◌, Bool, true, false, List, [], ◌++◌, length, length-take, take, Option, Some, refl, sym, ap, ◌∙◌, subst, append_assoc, arith}
use Rattle.std.specs.Prelude.{IsTrue, Err}
use Rattle.std.proofs.KnownBytes.{Consumes-trans}
use Rattle.xdf_model.specs.declared.types.Why.{Why}
use Rattle.chunk_grammar.specs.Chunk.{Context}
use Rattle.chunk_grammar.specs.Standing.{Standing, whole, torn, bad, standing_at, IsWhole}
use Rattle.reading_model.specs.Reading.{is_done}
use Rattle.file_model.specs.declared.next.Next.TheVariants.{Torn, Bad}
use Rattle.file_reader.specs.AsNext.{as_next}
use Rattle.file_reader.specs.declared.passed.Passed.{Passed}
use Rattle.file_reader.specs.declared.passed.Passed.TheVariants as passes
use Rattle.file_reader.specs.FileInlet.{FileInlet}
use Rattle.boundary_search.specs.declared.step.SalvageEnd.{SalvageEnd}
use Rattle.boundary_search.specs.declared.step.SalvageEnd.TheVariants as end
use Rattle.boundary_search.specs.Parts.{IsBad, IsPart, IsStuck, skipped}
use Rattle.boundary_search.specs.Following.{IsReadSo}
use Rattle.boundary_search.specs.Salvage.{Goes, IsBroken, IsGonePast, IsPastLimit, IsFound, Salvage, counted, told_end}
use Rattle.boundary_search.specs.Searching.{NoneStands, IsSearched}
use Rattle.boundary_search.proofs.Searching.{bad_all, bad_is_none, bad_some}

torn_is_none : (x : Standing) → x ≡ torn → IsWhole x → ⊥
torn_is_none (whole c used) e w = absurd cc
torn_is_none torn e w = w
torn_is_none (bad n why) e w = w

-- ---- no whole chunk stands at the place

pub none_torn : (a b : Option (List ℕ)) (e : Bool) (old mid : FileInlet) (at n : ℕ) → IsReadSo a b e old mid (Torn at n) → mid.place ≤ mid.byte_limit → NoneStands true mid
none_torn a b e old mid at n h low = record {
  over = ap is_done h.tells.0;
  fresh = h.given.0;
  bad = λ f. absurd cc;
  none = λ t. (omega (arith, h.tells.2, h.tells.5), (λ w. torn_is_none (standing_at mid.context mid.ahead) h.tells.3 w), h.tells.4);
  low = low;
}

pub none_bad : (a b : Option (List ℕ)) (e : Bool) (old mid : FileInlet) (at : ℕ) (why : Why) → IsReadSo a b e old mid (Bad at why) → mid.place ≤ mid.byte_limit → (IsTrue e → mid.place + length mid.ahead ≤ mid.byte_limit) → NoneStands e mid
none_bad a b e old mid at why h low within =
    let found : IsBad (standing_at mid.context (counted mid)) = subst IsBad (sym h.tells.3) tt in
    record {
      over = ap is_done h.tells.0;
      fresh = h.given.0;
      bad = λ f. found;
      none = λ t. (
        omega (arith, bad_some mid.context (counted mid) found, length-take (mid.byte_limit - mid.place) mid.ahead),
        (λ w. bad_is_none (standing_at mid.context mid.ahead) (bad_all mid.context (mid.byte_limit - mid.place) mid.ahead found) w),
        within t,
      );
      low = low;
    }

-- an answer of a reader beneath at a place where no whole chunk stands
pub data IsStopped (passed : Passed) : Type 0 where
  at_torn : (at left : ℕ) → passed ≡ passes.Torn at left → IsStopped passed
  at_bad : (at : ℕ) (why : Why) → passed ≡ passes.Bad at why → IsStopped passed

pub read_torn : (a b : Option (List ℕ)) (e : Bool) (old mid : FileInlet) (passed : Passed) (at n : ℕ) → passed ≡ passes.Torn at n → IsReadSo a b e old mid (as_next old.context mid.last passed) → IsReadSo a b e old mid (Torn at n)
read_torn a b e old mid passed at n is h = subst (λ (p : Passed). IsReadSo a b e old mid (as_next old.context mid.last p)) is h

pub read_bad : (a b : Option (List ℕ)) (e : Bool) (old mid : FileInlet) (passed : Passed) (at : ℕ) (why : Why) → passed ≡ passes.Bad at why → IsReadSo a b e old mid (as_next old.context mid.last passed) → IsReadSo a b e old mid (Bad at why)
read_bad a b e old mid passed at why is h = subst (λ (p : Passed). IsReadSo a b e old mid (as_next old.context mid.last p)) is h

-- it gave no chunk
pub none_given : (a b : Option (List ℕ)) (e : Bool) (old mid : FileInlet) (passed : Passed) → IsStopped passed → IsReadSo a b e old mid (as_next old.context mid.last passed) → (mid.last ≡ []) × (mid.place ≡ old.place) × (mid.context ≡ old.context)
none_given a b e old mid passed (at_torn at n is) h = (read_torn a b e old mid passed at n is h).given
none_given a b e old mid passed (at_bad at why is) h = (read_bad a b e old mid passed at why is h).given

-- ---- what was gone past behind the answer

module _ (a b c : Option (List ℕ)) (e e' : Bool) (old mid new : FileInlet) (g : Goes a b e old mid mid.last) (none : mid.last ≡ []) (context : mid.context ≡ old.context) (later : IsTrue e → IsTrue e') where
  same_place : mid.place ≡ old.place
  same_place = omega (arith, g.place, ap length none)

  pub goes_both : (gone : List ℕ) → Goes b c e' mid new gone → Goes a c e old new gone
  goes_both gone h = record {
    taken = g.taken ++ h.taken;
    lost = Consumes-trans a b c g.taken h.taken g.lost h.lost;
    none = λ t. ap (λ (l : List ℕ). l ++ h.taken) (g.none t) ∙ h.none (later t);
    all = sym (append_assoc old.ahead g.taken h.taken) ∙ ap (λ (l : List ℕ). l ++ h.taken) g.all ∙ ap (λ (l : List ℕ). (l ++ mid.ahead) ++ h.taken) none ∙ h.all;
    place = omega (arith, h.place, same_place);
    limit = h.limit ∙ g.limit;
  }

  pub past_both : (e'' : Bool) → IsGonePast b c e' e'' mid new → IsGonePast a c e e'' old new
  past_both e'' h = record {
    range = h.range;
    goes = goes_both h.range h.goes;
    sure = λ f. subst (λ (x : Context). IsPart false x (skipped h.range) (counted new)) context (h.sure f);
    all = λ t. subst (λ (x : Context). IsPart true x (skipped h.range) new.ahead) context (h.all t);
    context = h.context ∙ context;
    within = h.within;
    counts = h.counts;
    none = h.none;
  }

  pub limit_both : IsPastLimit b c e' mid new → IsPastLimit a c e old new
  limit_both h =
      let room : mid.byte_limit - mid.place ≡ old.byte_limit - old.place = omega (arith, g.limit, same_place) in
      record {
        gone = h.gone;
        goes = goes_both h.gone h.goes;
        more = h.more;
        stuck = subst (λ (n : ℕ). IsStuck old.context (take n (h.gone ++ new.ahead))) room (subst (λ (x : Context). IsStuck x (take (mid.byte_limit - mid.place) (h.gone ++ new.ahead))) context h.stuck);
        none = h.none;
      }

  pub broken_both : IsBroken b c e' mid new → IsBroken a c e old new
  broken_both h = record { gone = h.gone; goes = goes_both h.gone h.goes; within = h.within; none = h.none }

-- a search that gave up
pub faulted : {S : Type 0} (a b c : Option (List ℕ)) (e e' e'' : Bool) (old : Salvage S) (mid file : FileInlet) (source : S) (fault : SalvageEnd) → old.ended ≡ e → Goes a b e old.file mid mid.last → mid.last ≡ [] → mid.context ≡ old.file.context
    → (IsTrue e → IsTrue e') → IsSearched b c e' e'' mid file (Err fault) → IsFound a c old (record { source = source; file = file; ended = e''; end = Some fault }) (told_end fault)
faulted a b c e e' e'' old mid file source end.End same g none context later h = absurd h
faulted a b c e e' e'' old mid file source end.ReadFault same g none context later h =
    (subst (λ (x : Bool). IsBroken a c x old.file file) (sym same) (broken_both a b c e e' old.file mid file g none context later h), refl)
faulted a b c e e' e'' old mid file source end.SizeLimit same g none context later h =
    (subst (λ (x : Bool). IsPastLimit a c x old.file file) (sym same) (limit_both a b c e e' old.file mid file g none context later h), refl)
