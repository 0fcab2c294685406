-- A recording that nothing hinders is done.
use Rattle.std.proofs.Common.{◌≡◌, ◌≢◌, ℕ, zero, suc, ◌≤◌, ◌==◌, ◌||◌, List, [], ◌∷◌, ◌++◌, length, Option, Some, Ok, Err, refl, sym, ap, ◌∙◌, subst, inl, inr, arith, append-nil, append_assoc}
use Rattle.std.proofs.lemmas.Grind.{common_steps}
use Rattle.std.specs.Prelude.{slice_get, IsTrue, ◌⊎◌}
use Rattle.std.proofs.lemmas.Bool.Decides.{nat_tests}
use Rattle.rec_base.specs.Causes.{Rose}
use Rattle.rec_base.specs.Contents.{Contents, Given}
use Rattle.rec_base.specs.declared.name.Name.{Name}
use Rattle.rec_base.specs.declared.name.Name.TheVariants as name
use Rattle.xdf_model.specs.Shape.{shape_in}
use Rattle.xdf_model.specs.declared.types.Shape.{Shape}
use Rattle.plan_model.specs.declared.top.Top.TheVariants.{Record}
use Rattle.plan_model.specs.declared.plan.Plan.{Plan}
use Rattle.plan_model.specs.declared.plan.FeedLine.{FeedLine}
use Rattle.plan_model.specs.Plan.{plan_in}
use Rattle.plan_model.specs.Commands.{Command, command_in, record_plan}
use Rattle.recording_model.specs.declared.stream.StreamDoc.{StreamDoc}
use Rattle.record_call.specs.Completed.{CompletesRecord, NoneFailed}
use Rattle.record_call.specs.Feeds.{document_limit, document_name, names_of, AreEach, AreStreamsOf, HasNoStream, IsNoDocument, IsStreamOf}
use Rattle.record_call.specs.Plans.{HasFailedPlan, IsPlanned, IsRefused}
use Rattle.record_call.specs.Recorded.{asked_cost, cost_limit, IsAsked, HasNoDocument, HasUnreadDocument, IsTooMuch}
use Rattle.record_call.specs.Statuses.{is_recorded, is_status}

by_status : (n : ℕ) → IsTrue (is_status n) → n ≢ 2 → n ≢ 3 → n ≢ 4 → n ≢ 5 → n ≢ 6 → n ≢ 7 → n ≢ 8 → IsTrue (is_recorded n || n == 9)
by_status zero s a b c d e f g = refl
by_status (suc zero) s a b c d e f g = refl
by_status (suc (suc zero)) s a b c d e f g = absurd (a refl)
by_status (suc (suc (suc zero))) s a b c d e f g = absurd (b refl)
by_status (suc (suc (suc (suc zero)))) s a b c d e f g = absurd (c refl)
by_status (suc (suc (suc (suc (suc zero))))) s a b c d e f g = absurd (d refl)
by_status (suc (suc (suc (suc (suc (suc zero)))))) s a b c d e f g = absurd (e refl)
by_status (suc (suc (suc (suc (suc (suc (suc zero))))))) s a b c d e f g = absurd (f refl)
by_status (suc (suc (suc (suc (suc (suc (suc (suc zero)))))))) s a b c d e f g = absurd (g refl)
by_status (suc (suc (suc (suc (suc (suc (suc (suc (suc zero))))))))) s a b c d e f g = refl
by_status (suc (suc (suc (suc (suc (suc (suc (suc (suc (suc n)))))))))) s a b c d e f g = absurd (grind (arith, nat_tests, s))

abbrev plan_path : Command → List ℕ
plan_path (record_plan path out) = path
plan_path other = []

abbrev plan_out : Command → List ℕ
plan_out (record_plan path out) = out
plan_out other = []

abbrev stream_of : ℕ → List ℕ → Shape → StreamDoc
stream_of id doc shape = record { id = id; doc = doc; shape = shape }

same_stream : (a b : ℕ) (d e : List ℕ) (s t : Shape) → a ≡ b → d ≡ e → s ≡ t → stream_of a d s ≡ stream_of b e t
same_stream a b d e s t id doc shape = cc (id, doc, shape)

-- ---- what is told is one

module _ (texts : Contents) (words : List (List ℕ)) where
  -- the plan that the words ask for
  module _ (path out p o text : List ℕ) (plan : Plan) (planned : IsPlanned (Some texts) words path out plan) (command : command_in Record words ≡ Ok (record_plan p o)) (input : slice_get (texts (name.File p)) 0 ≡ Some text) where
    same_command : record_plan path out ≡ record_plan p o
    same_command = cc (planned.command, command)

    pub same_path : path ≡ p
    same_path = ap plan_path same_command

    pub same_out : out ≡ o
    same_out = ap plan_out same_command

    pub same_text : planned.text ≡ text
    same_text =
        let at : slice_get (texts (name.File p)) 0 ≡ Some planned.text = subst (λ (q : List ℕ). slice_get (texts (name.File q)) 0 ≡ Some planned.text) same_path planned.input in
        cc (at, input)

    pub same_plan : plan_in text o ≡ Ok plan
    same_plan =
        let P : List ℕ → Type 0 = λ t. plan_in t o ≡ Ok plan in
        let Q : List ℕ → Type 0 = λ q. plan_in planned.text q ≡ Ok plan in
        subst P same_text (subst Q same_out planned.read)

  not_refused : (path out : List ℕ) (plan : Plan) → IsPlanned (Some texts) words path out plan → (line why : ℕ) → IsRefused (Some texts) words line why → ⊥
  not_refused path out plan planned line why r =
      let is = same_plan path out r.path r.out r.text plan planned r.command r.input in
      let both : Ok plan ≡ Err (line, why) = sym is ∙ r.refused in
      absurd cc

  one_plan : (path out p o : List ℕ) (plan other : Plan) → IsPlanned (Some texts) words path out plan → IsPlanned (Some texts) words p o other → (path ≡ p) × (plan ≡ other)
  one_plan path out p o plan other first second =
      let is = same_plan path out p o second.text plan first second.command second.input in
      let both : Ok plan ≡ Ok other = sym is ∙ second.read in
      (same_path path out p o second.text plan first second.command second.input, cc both)

  -- the item of a feed in a list of feeds
  each_at : {T : Type 0} (each : List Name → FeedLine → T → Type 0) (names : List Name) (before : List FeedLine) (feed : FeedLine) (behind : List FeedLine) (xs : List T)
      → AreEach document_name each names (before ++ feed ∷ behind) xs → (x : T) × each (names ++ names_of document_name before) feed x
  each_at each names [] feed behind [] all = absurd all
  each_at each names [] feed behind (x ∷ xs) all = (x, subst (λ (ns : List Name). each ns feed x) (sym (append-nil names)) all.0)
  each_at each names (f ∷ before) feed behind [] all = absurd all
  each_at each names (f ∷ before) feed behind (x ∷ xs) all =
      let k = each_at each (names ++ document_name f) before feed behind xs all.1 in
      (k.0, subst (λ (ns : List Name). each ns feed k.0) (append_assoc names (document_name f) (names_of document_name before)) k.1)

  no_document : (text doc : List ℕ) (shape : Shape) → text ≡ doc → shape_in doc ≡ Ok shape → length doc ≤ document_limit → IsNoDocument text → ⊥
  no_document text doc shape same is short (inl none) = absurd (grind (arith, common_steps, same, is, none))
  no_document text doc shape same is short (inr long) = let size : length text ≡ length doc = ap length same in omega (arith, size, short, long)

  has_streams : (names : List Name) (feeds : List FeedLine) (streams : List StreamDoc) (id : ℕ) → AreStreamsOf (Some texts) names feeds streams → HasNoStream (Some texts) names feeds id → ⊥
  has_streams names feeds streams id are none =
      let n = none.next in
      let all = subst (λ (fs : List FeedLine). AreEach document_name (IsStreamOf (Some texts)) names fs streams) n.parts are.each in
      let k = each_at (IsStreamOf (Some texts)) names n.before none.feed n.behind streams all in
      let P : List Name → Type 0 = λ opened. IsStreamOf (Some texts) opened none.feed k.0 in
      let is = subst P (sym n.names_opened) k.1 in
      let same : none.text ≡ k.0.doc = cc (none.input, is.input) in
      no_document none.text k.0.doc k.0.shape same is.shape is.short none.none

  one_stream : (names : List Name) (feed : FeedLine) (x y : StreamDoc) → IsStreamOf (Some texts) names feed x → IsStreamOf (Some texts) names feed y → x ≡ y
  one_stream names feed x y first second =
      let id : x.id ≡ y.id = first.id ∙ sym second.id in
      let doc : x.doc ≡ y.doc = cc (first.input, second.input) in
      let shapes : shape_in x.doc ≡ Ok y.shape = ap shape_in doc ∙ second.shape in
      let shape : x.shape ≡ y.shape = cc (first.shape, shapes) in
      same_stream x.id y.id x.doc y.doc x.shape y.shape id doc shape

  one_list : (names : List Name) (feeds : List FeedLine) (xs ys : List StreamDoc) → AreEach document_name (IsStreamOf (Some texts)) names feeds xs → AreEach document_name (IsStreamOf (Some texts)) names feeds ys → xs ≡ ys
  one_list names [] [] [] first second = refl
  one_list names [] [] (y ∷ ys) first second = absurd second
  one_list names [] (x ∷ xs) ys first second = absurd first
  one_list names (f ∷ feeds) [] ys first second = absurd first
  one_list names (f ∷ feeds) (x ∷ xs) [] first second = absurd second
  one_list names (f ∷ feeds) (x ∷ xs) (y ∷ ys) first second =
      let head = one_stream names f x y first.0 second.0 in
      let tail = one_list (names ++ document_name f) feeds xs ys first.1 second.1 in
      cc (head, tail)

  not_undocumented : (out : List ℕ) (plan : Plan) (streams : List StreamDoc) → IsAsked (Some texts) words out plan streams → (id : ℕ) → HasNoDocument (Some texts) words id → ⊥
  not_undocumented out plan streams asked id none =
      let one = one_plan asked.has.path out none.path none.out plan none.plan asked.has.planned none.planned in
      let P : List ℕ → Type 0 = λ path. HasNoStream (Some texts) (name.File path ∷ []) none.plan.feeds id in
      let Q : Plan → Type 0 = λ p. HasNoStream (Some texts) (name.File asked.has.path ∷ []) p.feeds id in
      has_streams (name.File asked.has.path ∷ []) plan.feeds streams id asked.has.streams_of (subst Q (sym one.1) (subst P (sym one.0) none.none))

  not_too_much : (out : List ℕ) (plan : Plan) (streams : List StreamDoc) → IsAsked (Some texts) words out plan streams → (cost : ℕ) → IsTooMuch (Some texts) words cost → ⊥
  not_too_much out plan streams asked cost much =
      let one = one_plan asked.has.path out much.has.path much.out plan much.plan asked.has.planned much.has.planned in
      let P : List ℕ → Type 0 = λ path. AreStreamsOf (Some texts) (name.File path ∷ []) much.plan.feeds much.streams in
      let Q : Plan → Type 0 = λ p. AreStreamsOf (Some texts) (name.File asked.has.path ∷ []) p.feeds much.streams in
      let are = subst Q (sym one.1) (subst P (sym one.0) much.has.streams_of) in
      let same = one_list (name.File asked.has.path ∷ []) plan.feeds streams much.streams asked.has.streams_of.each are.each in
      let R : Plan → Type 0 = λ p. asked_cost p much.streams ≤ cost_limit in
      let S : List StreamDoc → Type 0 = λ ss. asked_cost plan ss ≤ cost_limit in
      let within = subst R one.1 (subst S same asked.cost) in
      omega (arith, within, much.is, much.over)

-- ---- all causes

module _ {S M I : Type 0} (left_of : S → Option (List ℕ)) (faults_of : S → ℕ) (mark_of : S → M) (input_mark_of : S → I) (contents : Option Contents) (marks : Option (Given I)) (words : List (List ℕ)) (opens opens' writes writes' says says' : ℕ) where
  pub completes : (n : ℕ) → IsTrue (is_status n) → (n ≡ 2 → (why : ℕ) × (command_in Record words ≡ Err why)) → (n ≡ 3 → (line : ℕ) × (why : ℕ) × IsRefused contents words line why)
      → (n ≡ 4 → Rose opens opens' ⊎ HasFailedPlan left_of faults_of mark_of input_mark_of contents marks words ⊎ HasUnreadDocument left_of faults_of mark_of input_mark_of contents marks words)
      → (n ≡ 5 → Rose writes writes') → (n ≡ 6 → (id : ℕ) × HasNoDocument contents words id) → (n ≡ 7 → (cost : ℕ) × IsTooMuch contents words cost) → (n ≡ 8 → Rose says says')
      → CompletesRecord left_of faults_of mark_of input_mark_of contents marks words opens opens' writes writes' says says' n
  completes n status two three four five six seven eight = λ texts out plan streams told asked none.
      let A : Option Contents → Type 0 = λ c. IsAsked c words out plan streams in
      let good = subst A told asked in
      by_status n status
      (λ e. let k = two e in let both : Ok (record_plan asked.has.path out) ≡ Err k.0 = sym asked.has.planned.command ∙ k.1 in absurd (cc both))
      (λ e. let k = three e in not_refused texts words good.has.path out plan good.has.planned k.0 k.1 (subst (λ c. IsRefused c words k.0 k.1) told k.2))
      (λ e. by_read none (four e))
      (λ e. none.writing (five e))
      (λ e. let k = six e in not_undocumented texts words out plan streams good k.0 (subst (λ c. HasNoDocument c words k.0) told k.1))
      (λ e. let k = seven e in not_too_much texts words out plan streams good k.0 (subst (λ c. IsTooMuch c words k.0) told k.1))
      (λ e. none.saying (eight e))
    where
      by_read : NoneFailed left_of faults_of mark_of input_mark_of contents marks words opens opens' writes writes' says says'
          → Rose opens opens' ⊎ HasFailedPlan left_of faults_of mark_of input_mark_of contents marks words ⊎ HasUnreadDocument left_of faults_of mark_of input_mark_of contents marks words → ⊥
      by_read none (inl rose) = none.opening rose
      by_read none (inr (inl k)) = none.plan k
      by_read none (inr (inr k)) = none.documents k
