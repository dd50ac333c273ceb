-- Each place has its row.
use Rattle.std.proofs.Common.{◌≡◌, ℕ, suc, Bool, List, [], ◌∷◌, length, length-append, refl, ap, ◌∙◌, arith}
use Rattle.std.proofs.Math.Seq.{get_or-append_seam}
use Rattle.std.proofs.Math.ListN.{get_or-append}
use Rattle.gs_syntax.specs.declared.token.Token.{Token}
use Rattle.gs_grammar.specs.Row.{past}
use Rattle.gs_grammar.specs.Reference.{row_step, row_at, rows, row, idents_step, type_name_step, type_step, unnamed_step, named_params_step, params_step, signature_step, tag_step, field_step, fields_step, member_step, members_step, literal_step, selected_step, block_step, received_step, head_step, bound_step, args_step, suffix_step, suffixes_step, primary_step, unary_step, expr_step, operand_step, operands_step, value_step, element_step, elements_step, exprs_step, simple_step, const_spec_step, const_specs_step, type_spec_step, type_specs_step, var_spec_step, var_specs_step, decl_step, values_step, target_step, arms_step, arm_step, tag_value_step, guard_step, clauses_step, types_step, type_clauses_step, comm_step, comm_clauses_step, header_step, condition_step, post_step, range_left_step, stmt_step, stmts_step, import_spec_step, import_specs_step, body_step, top_step, chunk_step}
use Rattle.gs_grammar.proofs.Common.{Ends, here, later, length-Ends}

length-rows : (s : List Token) → length (rows s) ≡ suc (length s)
unfolding rows
length-rows [] = refl
length-rows (x ∷ s) = length-append (rows s) _ ∙ omega (arith, length-rows s)

pub row-cons : (x : Token) (s : List Token) → row (x ∷ s) ≡ row_step s (row_at (rows s)) x
unfolding rows
row-cons x s = rw (← length-rows s) (get_or-append_seam (rows s) (row_step s (row_at (rows s)) x) [] past)

pub row-nil : row [] ≡ past
unfolding rows
row-nil = refl

pub look : {s r : List Token} → Ends s r → row_at (rows s) r ≡ row r
unfolding rows
look here = refl
look {r = r} (later {x} {s} e) = get_or-append (rows s) _ past (length r) (omega (arith, length-rows s, length-Ends e)) ∙ look e

pub idents-cons : (x : Token) (s : List Token) → (row (x ∷ s)).idents ≡ idents_step s (row_at (rows s)) x
idents-cons x s = ap (λ z. z.idents) (row-cons x s)

pub type_name-cons : (x : Token) (s : List Token) → (row (x ∷ s)).type_name ≡ type_name_step s (row_at (rows s)) x
type_name-cons x s = ap (λ z. z.type_name) (row-cons x s)

pub type-cons : (x : Token) (s : List Token) → (row (x ∷ s)).type ≡ type_step s (row_at (rows s)) x
type-cons x s = ap (λ z. z.type) (row-cons x s)

pub unnamed-cons : (v : Bool) (x : Token) (s : List Token) → (row (x ∷ s)).unnamed v ≡ unnamed_step s (row_at (rows s)) v x
unnamed-cons v x s = ap (λ z. z.unnamed v) (row-cons x s)

pub named_params-cons : (v : Bool) (x : Token) (s : List Token) → (row (x ∷ s)).named_params v ≡ named_params_step s (row_at (rows s)) v x
named_params-cons v x s = ap (λ z. z.named_params v) (row-cons x s)

pub params-cons : (v : Bool) (x : Token) (s : List Token) → (row (x ∷ s)).params v ≡ params_step s (row_at (rows s)) v x
params-cons v x s = ap (λ z. z.params v) (row-cons x s)

pub signature-cons : (x : Token) (s : List Token) → (row (x ∷ s)).signature ≡ signature_step s (row_at (rows s)) x
signature-cons x s = ap (λ z. z.signature) (row-cons x s)

pub tag-cons : (x : Token) (s : List Token) → (row (x ∷ s)).tag ≡ tag_step s (row_at (rows s)) x
tag-cons x s = ap (λ z. z.tag) (row-cons x s)

pub field-cons : (x : Token) (s : List Token) → (row (x ∷ s)).field ≡ field_step s (row_at (rows s)) x
field-cons x s = ap (λ z. z.field) (row-cons x s)

pub fields-cons : (x : Token) (s : List Token) → (row (x ∷ s)).fields ≡ fields_step s (row_at (rows s)) x
fields-cons x s = ap (λ z. z.fields) (row-cons x s)

pub member-cons : (x : Token) (s : List Token) → (row (x ∷ s)).member ≡ member_step s (row_at (rows s)) x
member-cons x s = ap (λ z. z.member) (row-cons x s)

pub members-cons : (x : Token) (s : List Token) → (row (x ∷ s)).members ≡ members_step s (row_at (rows s)) x
members-cons x s = ap (λ z. z.members) (row-cons x s)

pub literal-cons : (x : Token) (s : List Token) → (row (x ∷ s)).literal ≡ literal_step s (row_at (rows s)) x
literal-cons x s = ap (λ z. z.literal) (row-cons x s)

pub selected-cons : (x : Token) (s : List Token) → (row (x ∷ s)).selected ≡ selected_step s (row_at (rows s)) x
selected-cons x s = ap (λ z. z.selected) (row-cons x s)

pub block-cons : (x : Token) (s : List Token) → (row (x ∷ s)).block ≡ block_step s (row_at (rows s)) x
block-cons x s = ap (λ z. z.block) (row-cons x s)

pub received-cons : (x : Token) (s : List Token) → (row (x ∷ s)).received ≡ received_step s (row_at (rows s)) x
received-cons x s = ap (λ z. z.received) (row-cons x s)

pub head-cons : (h : Bool) (x : Token) (s : List Token) → (row (x ∷ s)).head h ≡ head_step s (row_at (rows s)) h x
head-cons h x s = ap (λ z. z.head h) (row-cons x s)

pub bound-cons : (x : Token) (s : List Token) → (row (x ∷ s)).bound ≡ bound_step s (row_at (rows s)) x
bound-cons x s = ap (λ z. z.bound) (row-cons x s)

pub args-cons : (x : Token) (s : List Token) → (row (x ∷ s)).args ≡ args_step s (row_at (rows s)) x
args-cons x s = ap (λ z. z.args) (row-cons x s)

pub suffix-cons : (x : Token) (s : List Token) → (row (x ∷ s)).suffix ≡ suffix_step s (row_at (rows s)) x
suffix-cons x s = ap (λ z. z.suffix) (row-cons x s)

pub suffixes-cons : (x : Token) (s : List Token) → (row (x ∷ s)).suffixes ≡ suffixes_step s (row_at (rows s)) x
suffixes-cons x s = ap (λ z. z.suffixes) (row-cons x s)

pub primary-cons : (h : Bool) (x : Token) (s : List Token) → (row (x ∷ s)).primary h ≡ primary_step s (row_at (rows s)) h x
primary-cons h x s = ap (λ z. z.primary h) (row-cons x s)

pub unary-cons : (h : Bool) (w : Bool) (x : Token) (s : List Token) → (row (x ∷ s)).unary h w ≡ unary_step s (row_at (rows s)) h w x
unary-cons h w x s = ap (λ z. z.unary h w) (row-cons x s)

pub expr-cons : (m : ℕ) (h : Bool) (w : Bool) (x : Token) (s : List Token) → (row (x ∷ s)).expr m h w ≡ expr_step s (row_at (rows s)) m h w x
expr-cons m h w x s = ap (λ z. z.expr m h w) (row-cons x s)

pub operand-cons : (m : ℕ) (h : Bool) (x : Token) (s : List Token) → (row (x ∷ s)).operand m h ≡ operand_step s (row_at (rows s)) m h x
operand-cons m h x s = ap (λ z. z.operand m h) (row-cons x s)

pub operands-cons : (m : ℕ) (h : Bool) (x : Token) (s : List Token) → (row (x ∷ s)).operands m h ≡ operands_step s (row_at (rows s)) m h x
operands-cons m h x s = ap (λ z. z.operands m h) (row-cons x s)

pub value-cons : (x : Token) (s : List Token) → (row (x ∷ s)).value ≡ value_step s (row_at (rows s)) x
value-cons x s = ap (λ z. z.value) (row-cons x s)

pub element-cons : (x : Token) (s : List Token) → (row (x ∷ s)).element ≡ element_step s (row_at (rows s)) x
element-cons x s = ap (λ z. z.element) (row-cons x s)

pub elements-cons : (x : Token) (s : List Token) → (row (x ∷ s)).elements ≡ elements_step s (row_at (rows s)) x
elements-cons x s = ap (λ z. z.elements) (row-cons x s)

pub exprs-cons : (h : Bool) (x : Token) (s : List Token) → (row (x ∷ s)).exprs h ≡ exprs_step s (row_at (rows s)) h x
exprs-cons h x s = ap (λ z. z.exprs h) (row-cons x s)

pub simple-cons : (h : Bool) (x : Token) (s : List Token) → (row (x ∷ s)).simple h ≡ simple_step s (row_at (rows s)) h x
simple-cons h x s = ap (λ z. z.simple h) (row-cons x s)

pub const_spec-cons : (i : Bool) (x : Token) (s : List Token) → (row (x ∷ s)).const_spec i ≡ const_spec_step s (row_at (rows s)) i x
const_spec-cons i x s = ap (λ z. z.const_spec i) (row-cons x s)

pub const_specs-cons : (i : Bool) (x : Token) (s : List Token) → (row (x ∷ s)).const_specs i ≡ const_specs_step s (row_at (rows s)) i x
const_specs-cons i x s = ap (λ z. z.const_specs i) (row-cons x s)

pub type_spec-cons : (x : Token) (s : List Token) → (row (x ∷ s)).type_spec ≡ type_spec_step s (row_at (rows s)) x
type_spec-cons x s = ap (λ z. z.type_spec) (row-cons x s)

pub type_specs-cons : (x : Token) (s : List Token) → (row (x ∷ s)).type_specs ≡ type_specs_step s (row_at (rows s)) x
type_specs-cons x s = ap (λ z. z.type_specs) (row-cons x s)

pub var_spec-cons : (x : Token) (s : List Token) → (row (x ∷ s)).var_spec ≡ var_spec_step s (row_at (rows s)) x
var_spec-cons x s = ap (λ z. z.var_spec) (row-cons x s)

pub var_specs-cons : (x : Token) (s : List Token) → (row (x ∷ s)).var_specs ≡ var_specs_step s (row_at (rows s)) x
var_specs-cons x s = ap (λ z. z.var_specs) (row-cons x s)

pub decl-cons : (x : Token) (s : List Token) → (row (x ∷ s)).decl ≡ decl_step s (row_at (rows s)) x
decl-cons x s = ap (λ z. z.decl) (row-cons x s)

pub values-cons : (x : Token) (s : List Token) → (row (x ∷ s)).values ≡ values_step s (row_at (rows s)) x
values-cons x s = ap (λ z. z.values) (row-cons x s)

pub target-cons : (x : Token) (s : List Token) → (row (x ∷ s)).target ≡ target_step s (row_at (rows s)) x
target-cons x s = ap (λ z. z.target) (row-cons x s)

pub arms-cons : (x : Token) (s : List Token) → (row (x ∷ s)).arms ≡ arms_step s (row_at (rows s)) x
arms-cons x s = ap (λ z. z.arms) (row-cons x s)

pub arm-cons : (x : Token) (s : List Token) → (row (x ∷ s)).arm ≡ arm_step s (row_at (rows s)) x
arm-cons x s = ap (λ z. z.arm) (row-cons x s)

pub tag_value-cons : (x : Token) (s : List Token) → (row (x ∷ s)).tag_value ≡ tag_value_step s (row_at (rows s)) x
tag_value-cons x s = ap (λ z. z.tag_value) (row-cons x s)

pub guard-cons : (x : Token) (s : List Token) → (row (x ∷ s)).guard ≡ guard_step s (row_at (rows s)) x
guard-cons x s = ap (λ z. z.guard) (row-cons x s)

pub clauses-cons : (x : Token) (s : List Token) → (row (x ∷ s)).clauses ≡ clauses_step s (row_at (rows s)) x
clauses-cons x s = ap (λ z. z.clauses) (row-cons x s)

pub types-cons : (x : Token) (s : List Token) → (row (x ∷ s)).types ≡ types_step s (row_at (rows s)) x
types-cons x s = ap (λ z. z.types) (row-cons x s)

pub type_clauses-cons : (x : Token) (s : List Token) → (row (x ∷ s)).type_clauses ≡ type_clauses_step s (row_at (rows s)) x
type_clauses-cons x s = ap (λ z. z.type_clauses) (row-cons x s)

pub comm-cons : (x : Token) (s : List Token) → (row (x ∷ s)).comm ≡ comm_step s (row_at (rows s)) x
comm-cons x s = ap (λ z. z.comm) (row-cons x s)

pub comm_clauses-cons : (x : Token) (s : List Token) → (row (x ∷ s)).comm_clauses ≡ comm_clauses_step s (row_at (rows s)) x
comm_clauses-cons x s = ap (λ z. z.comm_clauses) (row-cons x s)

pub header-cons : (x : Token) (s : List Token) → (row (x ∷ s)).header ≡ header_step s (row_at (rows s)) x
header-cons x s = ap (λ z. z.header) (row-cons x s)

pub condition-cons : (x : Token) (s : List Token) → (row (x ∷ s)).condition ≡ condition_step s (row_at (rows s)) x
condition-cons x s = ap (λ z. z.condition) (row-cons x s)

pub post-cons : (x : Token) (s : List Token) → (row (x ∷ s)).post ≡ post_step s (row_at (rows s)) x
post-cons x s = ap (λ z. z.post) (row-cons x s)

pub range_left-cons : (x : Token) (s : List Token) → (row (x ∷ s)).range_left ≡ range_left_step s (row_at (rows s)) x
range_left-cons x s = ap (λ z. z.range_left) (row-cons x s)

pub stmt-cons : (x : Token) (s : List Token) → (row (x ∷ s)).stmt ≡ stmt_step s (row_at (rows s)) x
stmt-cons x s = ap (λ z. z.stmt) (row-cons x s)

pub stmts-cons : (x : Token) (s : List Token) → (row (x ∷ s)).stmts ≡ stmts_step s (row_at (rows s)) x
stmts-cons x s = ap (λ z. z.stmts) (row-cons x s)

pub import_spec-cons : (x : Token) (s : List Token) → (row (x ∷ s)).import_spec ≡ import_spec_step s (row_at (rows s)) x
import_spec-cons x s = ap (λ z. z.import_spec) (row-cons x s)

pub import_specs-cons : (x : Token) (s : List Token) → (row (x ∷ s)).import_specs ≡ import_specs_step s (row_at (rows s)) x
import_specs-cons x s = ap (λ z. z.import_specs) (row-cons x s)

pub body-cons : (x : Token) (s : List Token) → (row (x ∷ s)).body ≡ body_step s (row_at (rows s)) x
body-cons x s = ap (λ z. z.body) (row-cons x s)

pub top-cons : (x : Token) (s : List Token) → (row (x ∷ s)).top ≡ top_step s (row_at (rows s)) x
top-cons x s = ap (λ z. z.top) (row-cons x s)

pub chunk-cons : (x : Token) (s : List Token) → (row (x ∷ s)).chunk ≡ chunk_step s (row_at (rows s)) x
chunk-cons x s = ap (λ z. z.chunk) (row-cons x s)
