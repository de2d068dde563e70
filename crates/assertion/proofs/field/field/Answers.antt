use Rattle.assertion.specs.Working.FieldWays.{field-version, field-constants, field-authorizer, field-licensees, field-conditions, field-comment}
use Rattle.assertion.proofs.field.field.Goals as goal

pub returns-then-k-eq-KEYNOTE_VERSION : goal.returns-then-k-eq-KEYNOTE_VERSION
returns-then-k-eq-KEYNOTE_VERSION c = search field-version

pub returns-then-k-eq-LOCAL_CONSTANTS : goal.returns-then-k-eq-LOCAL_CONSTANTS
returns-then-k-eq-LOCAL_CONSTANTS c = search field-constants

pub returns-then-k-eq-AUTHORIZER : goal.returns-then-k-eq-AUTHORIZER
returns-then-k-eq-AUTHORIZER c = search field-authorizer

pub returns-then-k-eq-LICENSEES : goal.returns-then-k-eq-LICENSEES
returns-then-k-eq-LICENSEES c = search field-licensees

pub returns-then-k-eq-CONDITIONS : goal.returns-then-k-eq-CONDITIONS
returns-then-k-eq-CONDITIONS c = search field-conditions

pub returns : goal.returns
returns c = search field-comment
