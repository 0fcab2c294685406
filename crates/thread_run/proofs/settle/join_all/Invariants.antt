use Rattle.std.proofs.Common.{◌≡◌, ◌++◌, ℕ, length, map, drop, slice_get, Some, vec_capacity}
use Rattle.thread_run.specs.declared.lane.CountedHead.{CountedHead}
use Rattle.thread_run.specs.declared.work.Worked.{Worked}
use Rattle.thread_run.specs.declared.settle.Joined.{Joined}
use Rattle.thread_run.specs.Settled.{IsJoined}
use Rattle.thread_run.proofs.settle.join_all.Given as goal

abbrev pub invariant-loop : goal.invariant-loop
invariant-loop g l = record {
  inlets : l.worked.items ≡ drop l.counter l.fn.worked.items;
  ends : l.heads.items ≡ drop l.counter l.fn.heads.items;
  count : length l.joined.items ≡ l.counter;
  room : vec_capacity l.joined ≡ vec_capacity l.fn.joined;
  word : l.lookers.word ≡ l.fn.lookers.word;
  space : l.lookers.room ≡ l.fn.lookers.room;
  size : length l.lookers.lookers ≡ l.counter;
  looked : l.lookers.lookers ++ map (λ (w : Worked g.row.S.Denot). w.looker) l.worked.items ≡ map (λ (w : Worked g.row.S.Denot). w.looker) l.fn.worked.items;
  each : (p : ℕ) (w : Worked g.row.S.Denot) (h : CountedHead) (s : Joined g.row.S.Denot) → slice_get l.fn.worked.items p ≡ Some w → slice_get l.fn.heads.items p ≡ Some h → slice_get l.joined.items p ≡ Some s → IsJoined w h s;
}
