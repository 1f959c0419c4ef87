-- What a session holds. Assumes nothing.
use Rattle.std.specs.Prelude.{◌≡◌, ℕ, [], Some, None, vec_items}
use Rattle.stage.specs.declared.session.Session.{Session}

-- a session that has played nothing: whole shows are to come, there is no log, and nothing was left for a part
pub record Begun (s : Session) : Type 0 where
  pub whole : s.solo ≡ None
  pub logs : vec_items s.logs ≡ []
  pub left : s.tally.left ≡ 0
  pub alike : s.tally.alike ≡ 0

-- a session s, turned to what is left for part p: the logs stay, and the tally begins anew
pub record Turned (s t : Session) (p : ℕ) : Type 0 where
  pub task : t.solo ≡ Some p
  pub logs : t.logs ≡ s.logs
  pub left : t.tally.left ≡ 0
  pub alike : t.tally.alike ≡ 0
