-- What a reader finds in the text of a run of a network, line by line. Nothing here looks at the routers.
use Rattle.std.specs.Prelude.{◌≡◌, ◌≢◌, ℕ, ◌+◌, ◌≤◌, List, [], ◌∷◌, ◌++◌, codes, All, slice_get, Some}
use Rattle.std.specs.List.{flat_map}
use Rattle.mesh_atoms.specs.declared.addr.Addr4.{Addr4}
use Rattle.mesh_atoms.specs.declared.addr.NetAddr.{NetAddr}
use Rattle.mesh_atoms.specs.declared.codes.metric.Metric.{Metric}
use Rattle.mesh_atoms.specs.declared.settings.Scenario.{Scenario}
use Rattle.mesh_atoms.specs.declared.settings.RouterSettings.{RouterSettings}
use Rattle.mesh_atoms.specs.declared.settings.Interface.{Interface}
use Rattle.mesh_atoms.specs.Base.{host}
use Rattle.mesh_atoms.specs.Codes.Codes.{metric_value}
use Rattle.mesh_atoms.specs.Radio.{Router, Joins, AddressOf, Attaches, HopCosts, IsWillingRouter}
use Rattle.mesh_atoms.specs.State.{HasAddressOn}
use Rattle.mesh_atoms.specs.Walk.{LeastWilling}
use Rattle.mesh_texts.specs.Lines.Lines.{route_line}
use Rattle.mesh_texts.specs.Lines.Marks.{joined}

-- Lines

-- a line: octets other than a line feed, and then a line feed
pub record IsLine (line : List ℕ) : Type 0 where
  pub inside : List ℕ
  pub one : All (λ octet. octet ≢ 10) inside
  pub whole : line ≡ inside ++ codes "\n"

-- the text begins with these octets
abbrev pub BeginsWith : List ℕ → List ℕ → Type 0
BeginsWith front text = (rest : List ℕ) × (text ≡ front ++ rest)

-- a line of the text, behind others, is `settled yes`
abbrev pub SaysSettled : List ℕ → Type 0
SaysSettled text = (front : List ℕ) × (behind : List ℕ) × (text ≡ front ++ (codes "\nsettled yes\n" ++ behind))

-- a line that begins neither like a heading nor like a route, and isn't `settled yes`
pub record IsPlain (l : List ℕ) : Type 0 where
  pub line : IsLine l
  pub no_heading : BeginsWith (codes "router ") l → ⊥
  pub no_route : BeginsWith (codes " route ") l → ⊥
  pub no_settled : BeginsWith (codes "settled yes\n") l → ⊥

-- a text of such lines
pub record ArePlain (text : List ℕ) : Type 0 where
  pub lines : List (List ℕ)
  pub each : All IsPlain lines
  pub whole : text ≡ flat_map (λ l. l) lines

-- the line stands under the heading of the router of that name, before any other heading
pub record StandsUnder (text name line : List ℕ) : Type 0 where
  pub before : List (List ℕ)
  pub heading : List ℕ
  pub between : List (List ℕ)
  pub behind : List ℕ
  pub whole : text ≡ flat_map (λ l. l) before ++ (heading ++ (flat_map (λ l. l) between ++ (line ++ behind)))
  pub lines_before : All IsLine before
  pub heading_is_line : IsLine heading
  pub lines_between : All IsLine between
  pub line_is_line : IsLine line
  pub is_heading : BeginsWith (joined (codes "router " ∷ name ∷ codes " " ∷ [])) heading
  pub no_other : All (λ l. BeginsWith (codes "router ") l → ⊥) between

-- Routes

-- under the router's name stands a route to the destination at the metric, by that next address on the interface of that name
abbrev pub PrintsBy : List ℕ → List ℕ → NetAddr → ℕ → Addr4 → List ℕ → Type 0
PrintsBy text name dest metric next face = (parent : NetAddr) × StandsUnder text name (route_line dest metric next face parent)

-- under the router's name stands a route to the destination at the metric
abbrev pub Prints : List ℕ → List ℕ → NetAddr → ℕ → Type 0
Prints text name dest metric = (next : Addr4) × (face : List ℕ) × PrintsBy text name dest metric next face

-- Where a printed route leads

-- the interface of that name of router x is joined with an interface of router n that has the address, by an arc of metric `near`; no
-- arc between the two is cheaper, and no way to n over routers that are willing to route
pub record NamesHop (s : Scenario) (x : ℕ) (face : List ℕ) (next : Addr4) (n near : ℕ) : Type 0 where
  pub i : ℕ
  pub j : ℕ
  pub router : RouterSettings
  pub is_router : Router s x router
  pub interface : Interface
  pub is_interface : slice_get router.interfaces i ≡ Some interface
  pub named : interface.name ≡ face
  pub owner : RouterSettings
  pub is_owner : Router s n owner
  pub has : HasAddressOn owner j next
  pub there : Metric
  pub back : Metric
  pub joins : Joins s x i n j there back
  pub value : metric_value there ≡ near
  pub least : HopCosts s x n near
  pub cheapest : LeastWilling (HopCosts s) (IsWillingRouter s) x n near

-- at router n, to which the metric is `near`: the destination is its address, at a route of that metric; or it prints a route
-- for what is left of the metric; or it attaches the network, and delivers there
pub data LeadsOnwards (s : Scenario) (text : List ℕ) (dest : NetAddr) (n near metric : ℕ) : Type 0 where
  Arrives : {a : Addr4} → dest ≡ host a → AddressOf s n a → metric ≡ near → LeadsOnwards s text dest n near metric
  Goes_on : {router : RouterSettings} (rest : ℕ) → Router s n router → Prints text router.name dest rest → metric ≡ near + rest →
      LeadsOnwards s text dest n near metric
  At_gateway : (own : ℕ) → Attaches s n dest own → metric ≤ near + own → LeadsOnwards s text dest n near metric

-- the next hop of a printed route of router x: a router joined with it that has the address, and where it leads on
pub record LeadsThere (s : Scenario) (text : List ℕ) (x : ℕ) (dest : NetAddr) (metric : ℕ) (next : Addr4) (face : List ℕ) :
    Type 0 where
  pub n : ℕ
  pub near : ℕ
  pub hop : NamesHop s x face next n near
  pub onward : LeadsOnwards s text dest n near metric
