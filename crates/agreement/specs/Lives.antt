-- Lives of actual controllers, and what is promised of one and of those that hear each other truly.
use Rattle.std.specs.Prelude.{◌≡◌, ℕ, ◌+◌, ◌-◌, ◌*◌, ◌/◌, ◌%◌, ◌<◌, ◌≤◌, true, List, [], ◌∷◌, ◌++◌, length, Some, Option}
use Rattle.structure.specs.Groups.{◌∈◌}
use Rattle.structure.specs.Meanings.{Meaning}
use Rattle.structure.specs.declared.Structure.{Ghosts as Structure}
use Rattle.duty.specs.Codes.{Code}
use Rattle.duty.specs.declared.duties.Duty.{Ghosts as Duty}
use Rattle.duty.specs.declared.values.Same.{Ghosts as Same}
use Rattle.duty.specs.declared.outcomes.Outcome.{Outcome}
use Rattle.rounds.specs.Rows.{Row, word_at}
use Rattle.rounds.specs.Slots.{rounds, after}
use Rattle.rounds.specs.Slots.Stage.{closed}
use Rattle.engine.specs.Promises.{Opened, Offers, Speaks, Hears}
use Rattle.engine.specs.Words.{word_code, codes}
use Rattle.engine.specs.declared.controllers.Controller.{Controller}
use Rattle.engine.specs.declared.controllers.Heard.TheVariants.{Round, Closed}
use Rattle.agreement.specs.Histories.{Event, offered, spoke, heard, History, accepted, row, answer, pending_at, closings}

-- ---- what a duty makes of closed values, the latest first, by its own step and by nothing else
module _ {D V : Type 0} (G : Duty D V) (σ : G.Settings) (k : G.Content) where
  abbrev pub content_by : List (Code × Outcome) → G.Content
  content_by [] = k
  content_by (x ∷ xs) = (G.step σ (content_by xs) x.0).0

  -- each value fits, and its outcome is that of the step on the content that it found
  abbrev pub Stepped : List (Code × Outcome) → Type 0
  Stepped [] = Unit {0}
  Stepped (x ∷ xs) = (G.fitting σ x.0 ≡ true) × (x.1 ≡ (G.step σ (content_by xs) x.0).1) × Stepped xs

module _ {S D V : Type 0} (M : Structure S) (G : Duty D V) (K : Same V) where
  -- ---- the life of a controller
  -- exactly what the contract of the call promises; speaking borrows the controller shared, so it stays
  abbrev pub Promised : Controller S D V → Event V → Controller S D V → Type 0
  Promised c (offered v r) c' = Offers M G K c v r c'
  Promised c (spoke w) c' = Speaks M G K c w × (c' ≡ c)
  Promised c (heard ws r) c' = Hears M G K c ws r c'

  -- the calls of the history lead from c to another controller, each call on what the one before left
  pub data Run (c : Controller S D V) : History V → Controller S D V → Type 0 where
    rests : Run c [] c
    goes : {es : History V} {c' : Controller S D V} (e : Event V) (c'' : Controller S D V) → Run c es c' → Promised c' e c'' → Run c (e ∷ es) c''

  -- a controller opened on a structure of meaning m and on a duty with settings σ and content k, with the first proposal v, and then called
  pub record Life (m : Meaning) (σ : G.Settings) (k : G.Content) (v : V) (es : History V) (c : Controller S D V) : Type 0 where
    pub s : S
    pub d : D
    pub start : Controller S D V
    pub meaning : M.meaning s ≡ m
    pub settings : G.settings d ≡ σ
    pub content : G.content d ≡ k
    pub opened : Opened M G K s d v start
    pub runs : Run start es c

  -- the rows of slot j, from 0
  abbrev pub slot_rows : Meaning → History V → ℕ → ℕ → Row
  slot_rows m es j i = codes K (row es (j * rounds m + i))

  -- the value x is what the rounds give in slot j, from the proposal that was pending as the slot began and from its rows
  abbrev pub Given : Meaning → G.Settings → V → History V → ℕ → Code → Type 0
  Given m σ v es j x = after m (G.fitting σ) (K.code (pending_at v es (j * rounds m))) (slot_rows m es j) (rounds m) ≡ closed x

  -- What holds of every life, whatever is offered and heard.
  pub record Lived (m : Meaning) (σ : G.Settings) (k : G.Content) (v : V) (es : History V) (c : Controller S D V) : Type 0 where
    -- the last row of slot j, and so every (3 × number of leads)-th accepted row, closes the slot with the value that the rounds give
    pub closes : (j : ℕ) → (j + 1) * rounds m ≤ accepted es → (x : V) × (o : Outcome) × (answer es (j * rounds m + (rounds m - 1)) ≡ Some (Closed x o)) × Given m σ v es j (K.code x)
    -- every other accepted row is answered with the round then due
    pub goes_on : (t : ℕ) → t < accepted es → t % rounds m + 1 < rounds m → answer es t ≡ Some (Round (t % rounds m + 2))
    -- one value is closed in each slot
    pub count : length (closings K es) ≡ accepted es / rounds m
    -- the duty takes each closed value by its own step, and changes by nothing else
    pub settings : G.settings c.duty ≡ σ
    pub content : G.content c.duty ≡ content_by G σ k (closings K es)
    pub stepped : Stepped G σ k (closings K es)

  -- ---- members of a group that hear each other truly
  -- w is a word that speaking answers on some controller to which the calls up to t accepted rows can have led; the one of the life is such a
  -- controller
  pub record SpeaksAfter (start : Controller S D V) (es : History V) (t : ℕ) (w : Option V) : Type 0 where
    pub earlier : History V
    pub later : History V
    pub c : Controller S D V
    pub parts : es ≡ later ++ earlier
    pub runs : Run start earlier c
    pub count : accepted earlier ≡ t
    pub speaks : Speaks M G K c w

  -- All members of A are newly opened on structures of one meaning and on duties that are alike. Accepted row t of each carries, at the place of
  -- each member q, a word that q speaks after t accepted rows, so that q has accepted that many. Refused rows and all other words are free.
  pub record HearTruly (m : Meaning) (σ : G.Settings) (k : G.Content) (A : ℕ) (first : ℕ → V) (history : ℕ → History V) (last : ℕ → Controller S D V) : Type 0 where
    pub life : (p : ℕ) → p < m.size → p ∈ A → Life m σ k (first p) (history p) (last p)
    pub truly : (p q t : ℕ) → p < m.size → (hq : q < m.size) → p ∈ A → (iq : q ∈ A) → t < accepted (history p) →
        (w : Option V) × SpeaksAfter (life q hq iq).start (history q) t w × (word_at (codes K (row (history p) t)) q ≡ word_code K w)

  -- two members with equally many accepted rows have equal contents, closed values and outcomes
  abbrev pub Agrees : Meaning → Type 0
  Agrees m =
      (σ : G.Settings) (k : G.Content) (A : ℕ) (first : ℕ → V) (history : ℕ → History V) (last : ℕ → Controller S D V) →
      m.enough A ≡ true → HearTruly m σ k A first history last →
      (p q : ℕ) → p < m.size → q < m.size → p ∈ A → q ∈ A → accepted (history p) ≡ accepted (history q) →
      (G.content (last p).duty ≡ G.content (last q).duty) × (closings K (history p) ≡ closings K (history q))

  -- A proposal that stood pending in all members as slot j began is the value of that slot. Where p has closed it, every member has accepted the
  -- rows before it.
  abbrev pub Keeps : Meaning → Type 0
  Keeps m =
      (σ : G.Settings) (k : G.Content) (A : ℕ) (first : ℕ → V) (history : ℕ → History V) (last : ℕ → Controller S D V) →
      m.enough A ≡ true → HearTruly m σ k A first history last → (j : ℕ) (v : Code) →
      ((p : ℕ) → p < m.size → p ∈ A → K.code (pending_at (first p) (history p) (j * rounds m)) ≡ v) →
      (p : ℕ) → p < m.size → p ∈ A → (j + 1) * rounds m ≤ accepted (history p) →
      (x : V) × (o : Outcome) × (answer (history p) (j * rounds m + (rounds m - 1)) ≡ Some (Closed x o)) × (K.code x ≡ v)
