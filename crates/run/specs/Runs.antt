-- What a run of a show file does. Assumes nothing.
use Rattle.std.specs.Prelude.{◌≡◌, ℕ, Bool, true, false, cond, ◌&&◌, List, [], ◌∷◌, ◌++◌, map, length, take, drop, Ok, Err, Result, nat_le}
use Rattle.element.specs.declared.words.Words.{Words}
use Rattle.element.specs.declared.element.Element.{Ghosts as Elements}
use Rattle.instruction.specs.declared.set.InstructionSet.{Ghosts as Sets}
use Rattle.store.specs.declared.store.Store.{Ghosts as Stores}
use Rattle.command.specs.declared.log.LogRecord.{LogRecord}
use Rattle.showfile.specs.declared.file.ShowFile.{ShowFile}
use Rattle.showfile.specs.Chain.{record_at}
use Rattle.showfile.specs.Opening.{rest}
use Rattle.isolation.specs.Making.{Making}
use Rattle.isolation.specs.Request.{Request}
use Rattle.isolation.specs.Machine.{host_step}
use Rattle.isolation.specs.History.{log_of, after_all}
use Rattle.host.specs.declared.host.Host.{Host}
use Rattle.host.specs.Logged.{record_of}
use Rattle.host.specs.Hosted.{state_of, fits_of, making_of}
use Rattle.host.specs.Led.{Led, Shown}
use Rattle.run.specs.declared.refusal.RunRefusal.{RunRefusal}
use Rattle.run.specs.declared.refusal.RunRefusal.TheVariants.{Scratch, Log}

-- a request at a place, with so much scratch
abbrev pub request_with : ℕ → List ℕ → ℕ → ℕ → Request
request_with p bs a r = record { place = p; bytes = bs; arg_room = a; result_room = r }

-- the request that record p of a file makes, at its index
abbrev pub request_at : List ℕ → ℕ → ℕ → ℕ → Request
request_at bs a r p = request_with p (record_at bs p) a r

-- the requests that the records to come make, in chain order
abbrev pub requests_of : ShowFile → ℕ → ℕ → List Request
requests_of f a r = map (request_at f.bytes.now a r) (rest f)

-- n commands, l places in the log, and so much scratch: refusal 6, then 5, or how many commands there are
abbrev pub answered : ℕ → ℕ → ℕ → ℕ → Result ℕ RunRefusal
answered n l a r = cond (nat_le 8 a && nat_le 4 r) (cond (nat_le n l) (Ok n) (Err Log)) (Err Scratch)

-- what is done: all, or nothing where the run is refused
abbrev pub done_of : {V : Type 0} → Result ℕ RunRefusal → List V → List V
done_of (Ok n) vs = vs
done_of (Err e) vs = []

abbrev pub some : {V : Type 0} → List V → Bool
some [] = false
some (v ∷ vs) = true

-- each log record in its turn, after the history before it
abbrev pub ShownAll : {E : Type 0} → (E → Words) → Making E → List Request → List Request → List LogRecord → Type 0
ShownAll p k h [] rs = Unit {0}
ShownAll p k h (c ∷ cs) [] = ⊥
ShownAll p k h (c ∷ cs) (r ∷ rs) = Shown p k h c r × ShownAll p k (h ++ (c ∷ [])) cs rs

-- The requests cs were done on a host that was x and is y; the log was l and is l'.
pub record Plays {S I E : Type 0} (st : Stores S E) (el : Elements E) (is : Sets I E) (x y : Host S I E) (cs : List Request) (l l' : List LogRecord) : Type 0 where
  -- one record a request, as the machine answers it; later records stay
  pub log : (m : ℕ → E) → l' ≡ map (record_of el.packed) (log_of (host_step (fits_of st el x) (making_of el is x m)) (state_of st el x) cs) ++ drop (length cs) l
  -- the whole state afterwards is the machine's; sheet, port sets and the set's meaning stay, and so does the size of the store
  pub state : (m : ℕ → E) → state_of st el y ≡ after_all (host_step (fits_of st el x) (making_of el is x m)) (state_of st el x) cs
  pub making : (m : ℕ → E) → making_of el is y m ≡ making_of el is x m
  pub fits : fits_of st el y ≡ fits_of st el x

-- A run. For every making and every history that lead to the host, each record is isolated, and the longer history leads to the host afterwards.
pub record Ran {S I E : Type 0} (st : Stores S E) (el : Elements E) (is : Sets I E) (x y : Host S I E) (cs : List Request) (l l' : List LogRecord) : Type 0 where
  pub plays : Plays st el is x y cs l l'
  pub isolated : (k : Making E) (h : List Request) → Led st el is k h x → ShownAll el.packed k h cs (take (length cs) l')
  pub led : (k : Making E) (h : List Request) → Led st el is k h x → Led st el is k (h ++ cs) y

-- a scratch list after n commands, before it is cleared: as long as it was, and untouched where there were none
pub record Left {E : Type 0} (n : ℕ) (xs xs' : List E) : Type 0 where
  pub long : length xs' ≡ length xs
  pub untouched : n ≡ 0 → xs' ≡ xs
