use Rattle.std.proofs.Common.{Some, ◌≡◌, List, sym, ap, ◌∙◌, subst, arith}
use Rattle.std.proofs.lemmas.Grind.{common_steps}
use Rattle.rec_base.specs.declared.name.Name.{Name}
use Rattle.rec_base.specs.Contents.{TakesFirst}
use Rattle.rec_base.specs.Files.{each_of, first_at, without_first}
use Rattle.rec_base.specs.MemDock.{DockState}
use Rattle.rec_base.specs.MemSource.{SourceState, bytes_left}
use Rattle.rec_base.proofs.NameFiles.{TakesFirst-first, without_first-none}
use Rattle.rec_base.proofs.mem_dock.MemDockDock.open.Goals as goal

-- the first source at a name was taken out
taken : {A : Type 0} (f : SourceState → A) (now before after : List (Name × SourceState)) (name : Name) (source : SourceState) → before ≡ now → first_at before name ≡ Some source
    → after ≡ without_first before name → TakesFirst (each_of f now) (each_of f after) name (f source)
taken f now before after name source seen first left =
    let P : List (Name × SourceState) → Type 0 = λ fs. TakesFirst (each_of f fs) (each_of f after) name (f source) in
    let Q : List (Name × SourceState) → Type 0 = λ fs. TakesFirst (each_of f before) (each_of f fs) name (f source) in
    subst P seen (subst Q (sym left) (TakesFirst-first f before name source first))

pub returns-in-Some-clause-gives : goal.returns-in-Some-clause-gives
returns-in-Some-clause-gives c =
    taken bytes_left _ _ _ _ _ (ap (λ (d : DockState). d.files) c.self.view_is) (sym c.take_first.ensures.first ∙ c.in-Some.is) c.take_first.ensures.others

pub returns-in-Some-clause-marked : goal.returns-in-Some-clause-marked
returns-in-Some-clause-marked c =
    taken (λ (s : SourceState). s.made) _ _ _ _ _ (ap (λ (d : DockState). d.files) c.self.view_is) (sym c.take_first.ensures.first ∙ c.in-Some.is) c.take_first.ensures.others

pub returns-in-None-clause-err : goal.returns-in-None-clause-err
returns-in-None-clause-err c =
    let files = c.self.inside.files.items in
    let kept : c.take_first.new.files.items ≡ files = c.take_first.ensures.others ∙ without_first-none files c.args.name.now (sym c.take_first.ensures.first ∙ c.in-None.is) in
    grind (arith, common_steps, kept)
