-- How one message spreads, by the numbers of routers and interfaces alone.
use Rattle.mesh_probe.proofs.Common.{◌≡◌, ℕ, zero, suc, ◌+◌, ◌<◌, ◌≤◌, ◌⊎◌, ◌++◌, ◌∷◌, [], List, Contains, Option, Some, None, Bool, true, false, nat_eq, list_any, AllPairs}

-- whether the number is among them
abbrev pub has : List ℕ → ℕ → Bool
has xs x = list_any (nat_eq x) xs

-- the routers that have heard the message over a link, and those that have sent it
pub record Spread : Type 0 where
  pub told : List ℕ
  pub sent : List ℕ

-- a frame with the message: the router and the interface that send it, after so many hops
pub record Going : Type 0 where
  pub from : ℕ
  pub iface : ℕ
  pub hops : ℕ

-- a router's frames on so many interfaces, in order
abbrev pub frames_on : ℕ → ℕ → ℕ → List Going
frames_on router hops zero = []
frames_on router hops (suc i) = frames_on router hops i ++ (record { from = router; iface = i; hops = hops } ∷ [])

-- these frames, where the message is sent
abbrev pub where_sent : Bool → List Going → List Going
where_sent true frames = frames
where_sent false frames = []

-- a network as the message sees it
pub record Net : Type 1 where
  pub count : ℕ  -- of routers
  pub faces : ℕ → ℕ  -- the number of a router's interfaces
  pub hearers : ℕ → ℕ → List (ℕ × ℕ)  -- who hears a frame of a router's interface, and on which interface
  pub Link : ℕ → ℕ → ℕ → ℕ → Type 0  -- the interface of a router is joined with one of another
  pub Flag : ℕ → ℕ → ℕ → ℕ → Option Bool → Type 0  -- the selector flag that the second holds for the first, where it holds a link
  pub More : ℕ → Type 0  -- after so many hops the message may take one more

-- one router hears a frame with that flag: it does nothing where it holds no link; else it may send the message where it
-- hasn't yet, and does where it hears it for the first time, is selected, and the message may take one more hop
pub data Takes (More : Type 0) (router : ℕ) (old : Spread) : Option Bool → Spread → Bool → Type 0 where
  Deaf : Takes More router old None old false
  Quiet : (flag : Bool) → (has old.told router ≡ false → flag ≡ true → More → ⊥) →
      Takes More router old (Some flag) (record { told = router ∷ old.told; sent = old.sent }) false
  Sends : (flag : Bool) → has old.sent router ≡ false →
      Takes More router old (Some flag) (record { told = router ∷ old.told; sent = router ∷ old.sent }) true

-- all hearers hear a frame, in order; the frames that they send
pub data Hears (n : Net) (f : Going) : List (ℕ × ℕ) → Spread → Spread → List Going → Type 0 where
  All_heard : {s : Spread} → Hears n f [] s s []
  One_hears : {w j : ℕ} {hearers : List (ℕ × ℕ)} {old mid new : Spread} {more : List Going} (flag : Option Bool) (sends : Bool) →
      n.Flag f.from f.iface w j flag → Takes (n.More f.hops) w old flag mid sends → Hears n f hearers mid new more →
      Hears n f ((w, j) ∷ hearers) old new (where_sent sends (frames_on w (suc f.hops) (n.faces w)) ++ more)

-- waiting frames are heard one after the other, first sent first, until none is left; all frames that are heard
pub data Wave (n : Net) : Spread → List Going → Spread → List Going → Type 0 where
  Ends : {s : Spread} → Wave n s [] s []
  Goes : {f : Going} {rest more all : List Going} {old mid new : Spread} →
      Hears n f (n.hearers f.from f.iface) old mid more → Wave n mid (rest ++ more) new all → Wave n old (f ∷ rest) new (f ∷ all)

-- a router sends the message first, on each of its interfaces
abbrev pub WaveFrom : Net → ℕ → Spread → List Going → Type 0
WaveFrom n origin new all = Wave n (record { told = origin ∷ []; sent = origin ∷ [] }) (frames_on origin 0 (n.faces origin)) new all

-- a chain of links leads from a router to another
pub data Chain (n : Net) (x : ℕ) : ℕ → Type 0 where
  Itself : Chain n x x
  On : {v w i j : ℕ} → Chain n x v → n.Link v i w j → Chain n x w

-- a router that is selected by x: each link that it holds with this interface of x has the flag
abbrev pub IsSelected : Net → ℕ → ℕ → ℕ → Type 0
IsSelected n x i w = (j : ℕ) (flag : Bool) → n.Flag x i w j (Some flag) → flag ≡ true

-- where v hears x, and v has a link with z, then x has itself a link with z over this interface, or selects there a router
-- that hears it and has a link with z
pub record IsCovering (n : Net) : Type 0 where
  pub linked : (x i w j : ℕ) (flag : Bool) → n.Flag x i w j (Some flag) → n.Link x i w j
  pub deaf : (x i w j : ℕ) → n.Flag x i w j None → n.Link x i w j → ⊥
  pub heard : (x i w j : ℕ) → n.Link x i w j → Contains (n.hearers x i) (w, j)
  pub routers : (x i w j : ℕ) → Contains (n.hearers x i) (w, j) → w < n.count
  pub faces : (x i w j : ℕ) → n.Link x i w j → i < n.faces x
  pub hops : (h : ℕ) → h + 2 ≤ n.count → n.More h
  pub covered : (x i v j k z l : ℕ) → n.Link x i v j → n.Link v k z l → (z ≡ x → ⊥) →
      ((m : ℕ) × n.Link x i z m) ⊎ ((w j k m : ℕ) × n.Link x i w j × n.Link w k z m × IsSelected n x i w)

-- the message reaches each router that a chain of links leads to
abbrev pub WaveCovers : Type 1
WaveCovers = (n : Net) → IsCovering n → (origin : ℕ) → origin < n.count → (new : Spread) (all : List Going) → WaveFrom n origin new all →
    (z : ℕ) → Chain n origin z → has new.told z ≡ true

-- two frames are of different routers or interfaces
abbrev pub IsApart : Going → Going → Type 0
IsApart f g = f.from ≡ g.from → f.iface ≡ g.iface → ⊥

-- no router sends the message twice on an interface
abbrev pub WaveSendsOnce : Type 1
WaveSendsOnce = (n : Net) (origin : ℕ) (new : Spread) (all : List Going) → WaveFrom n origin new all → AllPairs IsApart all
