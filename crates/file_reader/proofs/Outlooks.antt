-- What a reader of a file will still answer, step by step.
use Rattle.std.proofs.Common.{◌≡◌, ℕ, ◌+◌, ◌≤◌, ◌<◌, List, [], ◌∷◌, false, length, Option, Some, refl, sym, ap, ◌∙◌, subst}
use Rattle.std.proofs.lemmas.List.{append-nil}
use Rattle.std.specs.Io.KnownBytes.{Consumes, IsAtEnd}
use Rattle.reading_model.specs.Outlook.{ended, failed, Answered, Got, item, end, nothing, at_end}
use Rattle.reading_model.specs.Reading.{Reading, going, done, outlook_of, coming_of}
use Rattle.piece_reader.specs.Steps.{Carried, Takes, Wants, end_of, gained, work}
use Rattle.piece_reader.proofs.Steps.{coming_gained, coming_end, work_gained, none_gained}
use Rattle.piece_reader.proofs.Passing.{passes_item, ends_take}
use Rattle.piece_reader.proofs.Carrying.{carried_read, answered_kept, answered_ended, answered_failed, answered_over, over_as}
use Rattle.chunk_grammar.specs.declared.chunk.Chunk.{Chunk as ChunkValue}
use Rattle.chunk_grammar.specs.Chunk.{Context, context_after, IsChunkText}
use Rattle.file_model.specs.declared.end.FileEnd.{FileEnd}
use Rattle.file_model.specs.declared.end.FileEnd.TheVariants as over
use Rattle.file_model.specs.declared.next.Next.{Next}
use Rattle.file_model.specs.declared.next.Next.TheVariants.{Chunk, End, Torn, Bad, ReadFault, SizeLimit, Memory}
use Rattle.file_model.specs.Reader.{FileState, ChunkAt, file_kind, file_rules, end_reading}
use Rattle.file_reader.specs.declared.kept.Inner.TheVariants.{Answer}
use Rattle.file_reader.specs.declared.passed.Passed.{Passed}
use Rattle.file_reader.specs.declared.passed.Passed.TheVariants as passed
use Rattle.file_reader.specs.AsNext.{as_next, next_in, passed_end}
use Rattle.file_reader.specs.FileInlet.{FileInlet, IsGiven, end_in, got, outlook}
use Rattle.file_reader.specs.Kept.{Does, IsGoing, TakesGot, with_more, with_reading}
use Rattle.file_reader.proofs.Steady.{steady_file}

pub going_is : (x : Reading FileState FileEnd) → IsGoing x → (outlook_of file_rules x).is_over ≡ false
going_is (done e) g = absurd g
going_is (going s rest room) g = refl

-- ---- an answer of the bytes that were taken

takes_got : (g : Got ChunkAt FileEnd) (old new : Reading FileState FileEnd) → IsGoing old → TakesGot old new g → Takes file_kind (outlook_of file_rules old) (outlook_of file_rules new) g
takes_got (item c) old new g t = passes_item file_rules steady_file old new c t
takes_got (end e) old new g t = subst (λ (x : Reading FileState FileEnd). Takes file_kind (outlook_of file_rules old) (outlook_of file_rules x) (end e)) (sym t.1) (ends_take file_rules steady_file old e t.0)
takes_got nothing old new g t = subst (λ (x : Reading FileState FileEnd). Takes file_kind (outlook_of file_rules old) (outlook_of file_rules x) nothing) (sym t) (going_is old g, λ more how. refl)

-- ---- nothing answered yet: all but the reading is as it was, and no last chunk's bytes are held

pub record Same (old new : FileInlet) : Type 0 where
  pub fresh : new.last ≡ []
  pub context : new.context ≡ old.context
  pub place : new.place ≡ old.place
  pub limit : new.byte_limit ≡ old.byte_limit

-- what is told is told the same of the start
pub same_next : (p : Passed) (old mid new : FileInlet) → Same old mid → next_in mid new p ≡ next_in old new p
same_next p old mid new s = ap (λ (x : Context). as_next x new.last p) s.context

pub answered_step : (p : Passed) (value : Option ChunkValue) (old mid new : FileInlet) (a b : Option (List ℕ)) → Carried (outlook old) (outlook mid) a b → IsGoing mid.reading → Same old mid → Does mid new (Answer p value)
    → Answered file_kind (outlook old) (outlook new) a b (got (next_in old new p))
answered_step p value old mid new a b k g s d =
    let here = answered_kept file_kind (got (next_in mid new p)) (outlook old) (outlook mid) (outlook new) a b k (takes_got (got (next_in mid new p)) mid.reading new.reading g d.0) in
    subst (λ (n : Next). Answered file_kind (outlook old) (outlook new) a b (got n)) (same_next p old mid new s) here

pub given_same : (next : Next) (old mid new : FileInlet) → Same old mid → IsGiven mid new next → IsGiven old new next
given_same (Chunk at c) old mid new s h = (
  h.0 ∙ s.place,
  subst (λ (x : Context). IsChunkText x c new.last) s.context h.1,
  h.2 ∙ ap (λ (n : ℕ). n + length new.last) s.place,
  subst (λ (n : ℕ). new.place ≤ n) s.limit h.3,
  h.4 ∙ ap (λ (x : Context). context_after x c) s.context,
)
given_same (End at) old mid new s h = (h.0, h.1 ∙ s.place, h.2 ∙ s.context)
given_same (Torn at left) old mid new s h = (h.0, h.1 ∙ s.place, h.2 ∙ s.context)
given_same (Bad at why) old mid new s h = (h.0, h.1 ∙ s.place, h.2 ∙ s.context)
given_same ReadFault old mid new s h = (h.0, h.1 ∙ s.place, h.2 ∙ s.context)
given_same SizeLimit old mid new s h = (h.0, h.1 ∙ s.place, h.2 ∙ s.context)
given_same Memory old mid new s h = (h.0, h.1 ∙ s.place, h.2 ∙ s.context)

pub given_step : (p : Passed) (value : Option ChunkValue) (old mid new : FileInlet) → Same old mid → Does mid new (Answer p value) → IsGiven old new (next_in old new p)
given_step p value old mid new s d = subst (λ (n : Next). IsGiven old new n) (same_next p old mid new s) (given_same (next_in mid new p) old mid new s d.1)

pub same_reading : (old mid new : FileInlet) (reading : Reading FileState FileEnd) → Same old mid → new ≡ with_reading mid reading → Same old new
same_reading old mid new reading s e = subst (λ (x : FileInlet). Same old x) (sym e) (record { fresh = s.fresh; context = s.context; place = s.place; limit = s.limit })

pub same_here : (old mid new : FileInlet) → Same old mid → new ≡ mid → Same old new
same_here old mid new s e = subst (λ (x : FileInlet). Same old x) (sym e) s

gained_going : (x : Reading FileState FileEnd) (bytes : List ℕ) → Wants file_rules x → IsGoing (gained bytes x)
gained_going (done e) bytes w = absurd w
gained_going (going s rest room) bytes w = tt

pub wants_going : (x : Reading FileState FileEnd) → Wants file_rules x → IsGoing x
wants_going (done e) w = absurd w
wants_going (going s rest room) w = tt

pub record Goes (old new : FileInlet) : Type 0 where
  pub going : IsGoing new.reading
  pub less : work new.reading < work old.reading

pub piece_goes : (old new : FileInlet) (bytes : List ℕ) → Wants file_rules old.reading → (length bytes ≡ 0 → ⊥) → new ≡ with_more old bytes → Goes old new
piece_goes old new bytes w some e = subst (λ (x : FileInlet). Goes old x) (sym e) (record {
  going = gained_going old.reading bytes w;
  less = work_gained file_rules old.reading bytes w some;
})

pub piece_carried : (old mid new : FileInlet) (a b c : Option (List ℕ)) (bytes : List ℕ) → Carried (outlook old) (outlook mid) a b → Wants file_rules mid.reading → Consumes b c bytes → new ≡ with_more mid bytes
    → Carried (outlook old) (outlook new) a c
piece_carried old mid new a b c bytes k w lost e =
    let next : FileInlet = with_more mid bytes in
    let here : Carried (outlook old) (outlook next) a c =
    carried_read (outlook old) (outlook mid) (outlook next) a b c bytes k lost (going_is (gained bytes mid.reading) (gained_going mid.reading bytes w)) (λ more how. coming_gained file_rules mid.reading bytes more how) in
    subst (λ (x : FileInlet). Carried (outlook old) (outlook x) a c) (sym e) here

more_none : (mid : FileInlet) (bytes : List ℕ) → length bytes ≡ 0 → with_more mid bytes ≡ mid
more_none mid [] none =
    ap (λ (r : Reading FileState FileEnd). with_reading (with_more mid []) r) (none_gained mid.reading [] none)
    ∙ ap (λ (l : List ℕ). record { context = mid.context; place = mid.place; last = mid.last; ahead = l; reading = mid.reading; byte_limit = mid.byte_limit }) (append-nil mid.ahead)
more_none mid (x ∷ bytes) none = absurd cc

pub piece_none : (mid new : FileInlet) (bytes : List ℕ) → length bytes ≡ 0 → new ≡ with_more mid bytes → new ≡ mid
piece_none mid new bytes none e = e ∙ more_none mid bytes none

pub same_more : (old mid new : FileInlet) (bytes : List ℕ) → Same old mid → new ≡ with_more mid bytes → Same old new
same_more old mid new bytes s e = subst (λ (x : FileInlet). Same old x) (sym e) (record { fresh = s.fresh; context = s.context; place = s.place; limit = s.limit })

-- where more bytes are wanted, the state stays
pub want_carried : (o here mid : FileInlet) (a b : Option (List ℕ)) → Carried (outlook o) (outlook here) a b → mid ≡ here → Carried (outlook o) (outlook mid) a b
want_carried o here mid a b k e = subst (λ (x : FileInlet). Carried (outlook o) (outlook x) a b) (sym e) k

pub want_wants : (here mid : FileInlet) → Wants file_rules here.reading → mid ≡ here → Wants file_rules mid.reading
want_wants here mid w e = subst (λ (x : FileInlet). Wants file_rules x.reading) (sym e) w

pub same_work : (here mid new : FileInlet) → mid ≡ here → work new.reading < work mid.reading → work new.reading < work here.reading
same_work here mid new e lt = subst (λ (x : FileInlet). work new.reading < work x.reading) e lt

-- ---- ends

got_end : (e : FileEnd) → got (end_reading e) ≡ end e
got_end (over.End at) = refl
got_end (over.Torn at left) = refl
got_end (over.Bad at why) = refl
got_end over.ReadFault = refl
got_end over.SizeLimit = refl

-- an end gives no chunk
given_end : (e : FileEnd) (old new : FileInlet) → Same old new → IsGiven old new (end_reading e)
given_end (over.End at) old new s = (s.fresh, s.place, s.context)
given_end (over.Torn at left) old new s = (s.fresh, s.place, s.context)
given_end (over.Bad at why) old new s = (s.fresh, s.place, s.context)
given_end over.ReadFault old new s = (s.fresh, s.place, s.context)
given_end over.SizeLimit old new s = (s.fresh, s.place, s.context)

pub given_over : (next : Next) (e : FileEnd) (old mid new : FileInlet) → next ≡ end_reading e → Same old mid → new ≡ with_reading mid (done e) → IsGiven old new next
given_over next e old mid new v s o = subst (λ (x : Next). IsGiven old new x) (sym v) (given_end e old new (same_reading old mid new (done e) s o))

end_at_end : (x : Reading FileState FileEnd) → Wants file_rules x → file_kind (end_of file_rules x ended) ≡ at_end
end_at_end (done e) w = absurd w
end_at_end (going s rest room) w = steady_file.ended_is_at_end s rest

pub answered_end : (next : Next) (old mid new : FileInlet) (a b : Option (List ℕ)) → Carried (outlook old) (outlook mid) a b → Wants file_rules mid.reading → IsAtEnd b → next ≡ end_reading (end_of file_rules mid.reading ended)
    → new ≡ with_reading mid (done (end_of file_rules mid.reading ended)) → Answered file_kind (outlook old) (outlook new) a b (got next)
answered_end next old mid new a b k w h v o =
    let e : FileEnd = end_of file_rules mid.reading ended in
    let last : FileInlet = with_reading mid (done e) in
    let here : Answered file_kind (outlook old) (outlook last) a b (end e) =
    answered_ended file_kind (outlook old) (outlook mid) (outlook last) a b e k (coming_end file_rules mid.reading w ended) (end_at_end mid.reading w) h (over_as file_rules e) in
    let there : Answered file_kind (outlook old) (outlook new) a b (end e) = subst (λ (x : FileInlet). Answered file_kind (outlook old) (outlook x) a b (end e)) (sym o) here in
    subst (λ (g : Got ChunkAt FileEnd). Answered file_kind (outlook old) (outlook new) a b g) (sym (ap got v ∙ got_end e)) there

end_failed : (x : Reading FileState FileEnd) → Wants file_rules x → end_of file_rules x failed ≡ over.ReadFault
end_failed (done e) w = absurd w
end_failed (going s rest room) w = refl

pub answered_fault : (next : Next) (old mid new : FileInlet) (a b : Option (List ℕ)) → Carried (outlook old) (outlook mid) a b → Wants file_rules mid.reading → next ≡ ReadFault → new ≡ with_reading mid (done over.ReadFault)
    → Answered file_kind (outlook old) (outlook new) a b (got next)
answered_fault next old mid new a b k w v o =
    let last : FileInlet = with_reading mid (done over.ReadFault) in
    let comes : coming_of file_rules mid.reading [] failed ≡ ([], over.ReadFault) = coming_end file_rules mid.reading w failed ∙ ap (λ (x : FileEnd). ([], x)) (end_failed mid.reading w) in
    let here : Answered file_kind (outlook old) (outlook last) a b (end over.ReadFault) =
    answered_failed file_kind (outlook old) (outlook mid) (outlook last) a b over.ReadFault k comes refl (over_as file_rules over.ReadFault) in
    let there : Answered file_kind (outlook old) (outlook new) a b (end over.ReadFault) = subst (λ (x : FileInlet). Answered file_kind (outlook old) (outlook x) a b (end over.ReadFault)) (sym o) here in
    subst (λ (x : Next). Answered file_kind (outlook old) (outlook new) a b (got x)) (sym v) there

-- an end is told as it was answered
told_end : (context : Context) (text : List ℕ) (e : FileEnd) → as_next context text (passed_end e) ≡ end_reading e
told_end context text (over.End at) = refl
told_end context text (over.Torn at left) = refl
told_end context text (over.Bad at why) = refl
told_end context text over.ReadFault = refl
told_end context text over.SizeLimit = refl

pub answered_before : (p : Passed) (context : Context) (text : List ℕ) (x : Reading FileState FileEnd) (left : Option (List ℕ)) (e : FileEnd) → Some e ≡ end_in x → p ≡ passed_end e
    → Answered file_kind (outlook_of file_rules x) (outlook_of file_rules x) left left (got (as_next context text p))
answered_before p context text (going s rest room) left e h v = absurd cc
answered_before p context text (done x) left e h v =
    let same : x ≡ e = cc in
    let here : Answered file_kind (outlook_of file_rules (done x)) (outlook_of file_rules (done x)) left left (end e) =
    subst (λ (y : FileEnd). Answered file_kind (outlook_of file_rules (done x)) (outlook_of file_rules (done x)) left left (end y)) same (answered_over file_kind file_rules x left) in
    subst (λ (g : Got ChunkAt FileEnd). Answered file_kind (outlook_of file_rules (done x)) (outlook_of file_rules (done x)) left left g) (sym (ap (λ (q : Passed). got (as_next context text q)) v ∙ ap got (told_end context text e) ∙ got_end e)) here

-- what is told as a failed read is one
pub passed_fault : (context : Context) (text : List ℕ) (p : Passed) → as_next context text p ≡ ReadFault → p ≡ passed.ReadFault
passed_fault context text (passed.Chunk at) e = absurd cc
passed_fault context text (passed.End at) e = absurd cc
passed_fault context text (passed.Torn at left) e = absurd cc
passed_fault context text (passed.Bad at why) e = absurd cc
passed_fault context text passed.ReadFault e = refl
passed_fault context text passed.SizeLimit e = absurd cc
passed_fault context text passed.Memory e = absurd cc
